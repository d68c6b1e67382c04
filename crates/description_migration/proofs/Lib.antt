pub mod MemberLemmas
pub mod ReadLemmas
pub mod SecondLemmas
pub mod VerdictLemmas
pub mod PlainLemmas
pub mod MigratedLemmas
