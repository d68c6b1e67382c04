pub mod AcceptedPorts
mod AskLemmas
mod BitLemmas
mod EntryRows
mod BoundLemmas
pub mod BuiltLemmas
mod EntryLemmas
pub mod FilledLemmas
mod FoundEntries
pub mod FirstPortLemmas
mod GroupLemmas
mod ImageLemmas
pub mod KeptEntries
pub mod KeptLemmas
mod MarkLemmas
pub mod MovedEntries
pub mod MovesAlike
mod NameLemmas
mod PartTexts
pub mod PlaceLemmas
mod PlaceWrites
mod PortLemmas
pub mod PortsLemmas
pub mod PutLemmas
pub mod OtherwiseLemmas
mod PersistentLemmas
mod PersistentCounts
mod PersistentBodies
mod BehindLemmas
mod ReadLemmas
mod StepLemmas
mod TypeLengths
pub mod UploadLengths
mod UploadReads
pub mod ReloadLemmas
pub mod ReloadedImage
pub mod ReloadedPorts
mod WritableLemmas
mod WriteLemmas
pub mod TypeIds
pub mod TypesPut
