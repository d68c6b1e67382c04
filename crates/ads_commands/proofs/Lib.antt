pub mod RequestLemmas
pub mod Appends
pub mod ReplyLemmas
pub mod LawLemmas
