pub mod Access
pub mod Groups
