pub mod Found
pub mod History
pub mod Kept
pub mod Records
