pub mod PlaceLemmas
pub mod TotalLemmas
pub mod NumberLemmas
mod KeeperExamples
