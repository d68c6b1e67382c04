pub mod TextLemmas
pub mod MemberLemmas
pub mod PlainLemmas
