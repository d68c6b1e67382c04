pub mod Joined
pub mod Leaves
pub mod ManyDimensions
pub mod MemberTurns
mod FormExamples
pub mod FormTurns
pub mod Numbers
pub mod Places
pub mod SameNumbers
pub mod SameShapeLemmas
pub mod Partners
pub mod KnownExtents
pub mod NamedThere
