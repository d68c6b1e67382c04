pub mod Disk
pub mod Stops
pub mod BodyText
pub mod Slots
pub mod Saves
pub mod Laws
pub mod Runs
