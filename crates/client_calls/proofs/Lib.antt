pub mod TurnLemmas
pub mod StandingLemmas
pub mod RecordingLemmas
pub mod WayLemmas
pub mod NameLemmas
pub mod SendingLemmas
pub mod EntryAt
