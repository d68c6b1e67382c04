pub mod Kept
pub mod Represents
pub mod Steps
pub mod Recording
pub mod Sending
pub mod Turns
