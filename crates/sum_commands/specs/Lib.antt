pub mod Parts
pub mod Stops
pub mod Forms
pub mod SumCommand
pub mod Packing
pub mod Served
pub mod Reads
pub mod Additions
