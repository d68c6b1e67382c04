mod Examples
pub mod FirstWrong
pub mod TypesAccepted
pub mod Accepts
pub mod PortsAccepted
pub mod SymbolsAccepted
