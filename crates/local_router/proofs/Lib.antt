mod Examples
pub mod HeardLemmas
pub mod AnswerLemmas
pub mod SeenLemmas
pub mod RouteLemmas
pub mod PieceLemmas
pub mod PacketLemmas
