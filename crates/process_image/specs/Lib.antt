pub mod Bytes
pub mod Image
pub mod Lends
pub mod Ownership
pub mod Parts
pub mod Spans
pub mod Walk
pub mod Walked
