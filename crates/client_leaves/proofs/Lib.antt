pub mod TypeLemmas
pub mod TableLemmas
pub mod MemberLemmas
pub mod UploadLemmas
pub mod PathLemmas
pub mod WalkLemmas
mod Examples
