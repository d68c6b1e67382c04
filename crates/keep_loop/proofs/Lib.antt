pub mod BodyLemmas
pub mod PaceLemmas
pub mod SaveLemmas
pub mod SavingLemmas
pub mod TurnLemmas
pub mod KeepLemmas
mod QuietLemmas
pub mod MarkLemmas
mod AlsoLemmas
pub mod EndLemmas
mod BegunLemmas
mod LookLemmas
pub mod ShownLemmas
mod OnLemmas
mod OnMarkLemmas
mod SaverLemmas
mod RunLemmas
mod ShownOnLemmas
mod LoopOnLemmas
