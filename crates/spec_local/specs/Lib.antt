pub mod LocalCall
pub mod LinkLog
pub mod Laws
