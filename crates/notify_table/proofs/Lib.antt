pub mod Filtered
pub mod SentLemmas
pub mod TurnLemmas
pub mod ScheduleLemmas
pub mod NumberedLemmas
pub mod TableLemmas
pub mod CallerLemmas
pub mod TickLemmas
mod RoundLemmas
