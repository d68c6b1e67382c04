pub mod Link
pub mod Giving
