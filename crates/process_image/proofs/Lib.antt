mod Examples
pub mod Memory
pub mod Sharing
pub mod Walked
pub mod Walks
