pub mod ReadingLemmas
pub mod ReadLemmas
pub mod OpenLemmas
pub mod VerdictLemmas
pub mod EndLemmas
pub mod TaskLemmas
