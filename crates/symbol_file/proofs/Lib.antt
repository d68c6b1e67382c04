pub mod FitLemmas
pub mod AnswerLemmas
pub mod NameLemmas
pub mod InitialLemmas
