pub mod HearingCases
pub mod FateLemmas
pub mod CountLemmas
pub mod RecordingLemmas
pub mod RunLemmas
pub mod HandleLemmas
pub mod CallLemmas
pub mod KeptLemmas
