pub mod MappedTurns
pub mod SizedSymbols
