pub mod Persistent
pub mod Stored
pub mod Otherwise
pub mod Laws
