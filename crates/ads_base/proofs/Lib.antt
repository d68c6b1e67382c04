pub mod DecimalLemmas
pub mod NetLemmas
pub mod OctetsLemmas
pub mod SameNets
