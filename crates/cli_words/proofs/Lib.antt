pub mod ReadingLemmas
pub mod DividingLemmas
pub mod OptionLemmas
pub mod PartedLemmas
pub mod NumberLemmas
pub mod StoppedLemmas
pub mod NameLemmas
pub mod NetIdLemmas
pub mod FitLemmas
mod Examples
