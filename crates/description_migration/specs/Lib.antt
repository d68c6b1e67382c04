pub mod Migration
pub mod Faults
