pub mod EntryLemmas
pub mod Appends
