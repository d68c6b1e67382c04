pub mod KeptDisk
pub mod KeptSaves
pub mod KeptMarks
pub mod KeptPlay
pub mod KeptScript
pub mod Begun
