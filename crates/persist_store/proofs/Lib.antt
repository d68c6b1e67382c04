pub mod EntryLemmas
pub mod Moments
pub mod NameLemmas
pub mod OpeningLemmas
pub mod PastLemmas
pub mod StepLemmas
