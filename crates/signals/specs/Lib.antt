pub mod Bank
pub mod Wave
