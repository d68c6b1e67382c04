pub mod Reading
pub mod Words
pub mod Values
pub mod Forms
pub mod Commands
pub mod Dividing
pub mod Fits
