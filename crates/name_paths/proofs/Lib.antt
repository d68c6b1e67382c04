mod Examples
pub mod NumberLemmas
pub mod PieceLemmas
pub mod SplitLemmas
