mod AcceptedExamples
mod Examples
pub mod PartLemmas
pub mod SizeLemmas
mod TypeTextExamples
pub mod TypeLemmas
pub mod SameSizes
pub mod NumberTexts
pub mod TypeTextLemmas
pub mod TextLengths
pub mod ReadBack
pub mod Plant
pub mod BlockLemmas
pub mod CoveringLemmas
pub mod SoundLemmas
pub mod FoundLemmas
pub mod ShapesRead
pub mod TextsRead
