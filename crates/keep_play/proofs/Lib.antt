pub mod ScriptLemmas
pub mod CoreLemmas
pub mod StoreLemmas
