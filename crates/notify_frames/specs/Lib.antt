pub mod Samples
pub mod Notes
pub mod Place
pub mod Whole
