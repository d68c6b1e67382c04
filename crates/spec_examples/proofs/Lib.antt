mod OutsideExamples
mod TurnExamples
mod RelayExamples
mod DiskExamples
mod LinkLogExamples
mod PromiseExamples
mod RefusalExamples
