pub mod Entry
pub mod Parts
