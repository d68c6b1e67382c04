pub mod Asked
pub mod Written
pub mod Notified
pub mod KeptHandles
