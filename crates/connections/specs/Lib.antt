pub mod Present
pub mod Offering
pub mod Entries
pub mod Outlets
pub mod Touched
pub mod Clear
pub mod Carries
