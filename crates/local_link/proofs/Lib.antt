pub mod Removed
pub mod Waits
pub mod Moves
pub mod Gives
pub mod Tells
