pub mod SaidLemmas
pub mod RestLemmas
pub mod LogLemmas
pub mod GoingLemmas
pub mod DueLemmas
mod Examples
pub mod ReadyLemmas
pub mod TurnLemmas
pub mod SettleLemmas
pub mod RoundLemmas
pub mod OverLemmas
pub mod TalkLemmas
pub mod LineLemmas
pub mod FinishLemmas
pub mod RecordLemmas
pub mod LaterLemmas
pub mod ComeLemmas
