pub mod Kinds
pub mod Damage
pub mod Writes
pub mod Ranks
pub mod SlotsLent
pub mod CopyNames
