pub mod RecordRows
pub mod CallUses
pub mod Calling
pub mod Recording
pub mod Between
pub mod LocalCore
pub mod AskedFrom
pub mod RecordedFrom
