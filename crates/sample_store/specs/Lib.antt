pub mod Views
pub mod Keeper
pub mod MapKeeper
pub mod Places
