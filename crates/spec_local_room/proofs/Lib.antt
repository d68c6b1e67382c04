mod Coming
mod Hearing
mod Turning
mod Pieces
mod Deciding
mod Responding
mod Recording
mod RecordTurns
mod TickingAll
mod Ticking
mod Leading
mod Scenes
mod Stepping
mod WholeFrames
mod WholeSamples
mod Running
pub mod LocalAnswers
pub mod Beginnings
