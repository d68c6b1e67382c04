pub mod Shown
pub mod Admitted
