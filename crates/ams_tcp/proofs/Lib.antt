pub mod Headers
pub mod HistoryLemmas
pub mod PeekLemmas
