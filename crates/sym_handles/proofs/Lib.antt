pub mod Histories
pub mod KeptHandles
pub mod Slots
