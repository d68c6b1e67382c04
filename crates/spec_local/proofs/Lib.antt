pub mod LocalOver
pub mod LinkLogs
pub mod Came
pub mod Scenes
mod Told
mod CallExamples
mod WatchExamples
pub mod CallLogs
