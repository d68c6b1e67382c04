pub mod Promises
pub mod Told
pub mod Keeping
pub mod Migrated
pub mod Serving
pub mod ServiceEnds
pub mod Machine
pub mod FileOutcomes
