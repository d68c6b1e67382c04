pub mod TestLemmas
pub mod Dimensions
pub mod FieldLemmas
pub mod SubLemmas
pub mod ReadLemmas
pub mod Appends
pub mod TextLengths
pub mod LayoutLemmas
pub mod MemberLemmas
pub mod EntryLemmas
mod Examples
