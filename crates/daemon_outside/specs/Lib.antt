pub mod Outlet
pub mod MemStop
pub mod MemOutlet
pub mod Places
pub mod Sights
pub mod Stops
