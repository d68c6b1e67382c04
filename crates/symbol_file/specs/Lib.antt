pub mod Reading
pub mod Fitting
pub mod SymbolRead
pub mod Judged
