mod StateDevice
mod StateExamples
pub mod Find
mod ScriptExamples
pub mod Growth
pub mod Waiting
pub mod Changes
pub mod Delivered
pub mod TurnsKept
pub mod Played
pub mod Emptied
pub mod EmptiedTurns
pub mod AllTaken
pub mod Carried
pub mod ServerDelivers
mod OpenedAgain
pub mod Plant
mod WriteExamples
mod HandleExamples
mod NotificationExamples
mod SumExamples
mod ControlExamples
mod EntryExamples
mod PacketExamples
mod EnumerationExamples
mod BesideExamples
mod WideExamples
mod TypeByTextExamples
mod OthersExamples
pub mod Meanings
pub mod MoreActs
pub mod HandleStatuses
pub mod TablesAgreed
mod SumsInTurn
pub mod MoreSums
pub mod DecisionCases
mod RunExamples
pub mod AreaNames
pub mod ImageLemmas
pub mod PortBytesLemmas
pub mod StatesSet
pub mod SignalsStepped
pub mod FirstMemory
pub mod Reloaded
pub mod PlacesMoved
pub mod RangesMoved
pub mod AreaContent
pub mod WritableBytes
pub mod WorldBytes
pub mod TypesNamed
