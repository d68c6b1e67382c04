pub mod Asks
pub mod Fronts
pub mod Heard
pub mod Routes
pub mod Seen
