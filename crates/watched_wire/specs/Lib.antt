pub mod Ends
pub mod Ticks
pub mod Told
