pub mod Kept
pub mod Found
pub mod Entries
pub mod Table
pub mod Paths
pub mod Walks
