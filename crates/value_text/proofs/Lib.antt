pub mod NumberLemmas
pub mod QuoteLemmas
mod Examples
pub mod LawLemmas
pub mod HexLemmas
pub mod ValuesFound
