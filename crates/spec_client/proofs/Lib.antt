pub mod Frames
pub mod Told
mod HistoryExamples
mod LinkExamples
mod RecordingExamples
mod ArrayExamples
pub mod Hearings
pub mod TurnsUnfolded
pub mod TurnCases
