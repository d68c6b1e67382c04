pub mod Endless
pub mod Plant
pub mod Printed
pub mod Kept
pub mod PlantEnds
pub mod Running
