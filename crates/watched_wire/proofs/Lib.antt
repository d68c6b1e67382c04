pub mod EndLemmas
pub mod TickLemmas
