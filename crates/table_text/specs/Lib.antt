pub mod SetMember
pub mod PlainTable
pub mod TableText
