pub mod Heard
pub mod Kept
pub mod Represents
pub mod Unanswered
pub mod Samples
pub mod Hears
pub mod Promised
