pub mod Kept
pub mod Stages
pub mod Parts
pub mod Sound
pub mod Rows
pub mod RecordParts
