pub mod Nodes
pub mod Losses
