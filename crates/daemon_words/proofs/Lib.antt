mod NetLemmas
mod ReadingLemmas
mod SettleLemmas
mod TextLemmas
