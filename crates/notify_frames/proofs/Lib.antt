pub mod Appends
pub mod Left
pub mod Rests
pub mod Whole
