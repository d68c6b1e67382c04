mod PersistentExamples
pub mod OtherwiseLemmas
pub mod StoredLemmas
