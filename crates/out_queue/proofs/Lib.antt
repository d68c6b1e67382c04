mod Examples
pub mod RunLemmas
pub mod OpenLemmas
