pub mod Identifier
pub mod Indexes
pub mod Name
pub mod Number
pub mod Path
pub mod Pieces
pub mod Steps
