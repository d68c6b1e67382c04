pub mod NumberLemmas
pub mod FrontLemmas
pub mod DivisionLemmas
pub mod OneDivision
pub mod Hex
pub mod Examples
pub mod Laws
