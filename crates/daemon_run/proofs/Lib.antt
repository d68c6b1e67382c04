pub mod DoneLemmas
pub mod StatusLemmas
pub mod RunningLemmas
pub mod KeptLemmas
pub mod PlantDone
