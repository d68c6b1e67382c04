pub mod Decimal
pub mod ListOf
pub mod NetId
pub mod Octets
