pub mod Entry
pub mod Alone
pub mod Places
pub mod Layouts
pub mod WrittenFields
pub mod NextMembers
