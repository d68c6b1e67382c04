mod Examples
mod PassageExamples
pub mod ChangeLemmas
pub mod GivenLemmas
pub mod KeptLemmas
pub mod TakenLemmas
pub mod AnswerLemmas
pub mod MarkLemmas
pub mod RelayDelivered
pub mod PromiseLemmas
pub mod OpenedAlone
