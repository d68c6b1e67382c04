pub mod BeatLemmas
pub mod NetLemmas
pub mod NumberLemmas
pub mod PeerLemmas
pub mod QueueLemmas
pub mod RestLemmas
pub mod RunLemmas
pub mod SilenceLemmas
