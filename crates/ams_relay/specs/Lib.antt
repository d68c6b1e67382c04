pub mod Counts
pub mod Asking
pub mod Peers
pub mod Holds
pub mod Relays
pub mod Taking
