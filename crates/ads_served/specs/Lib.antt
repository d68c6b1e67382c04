pub mod Standing
pub mod Due
pub mod Opened
