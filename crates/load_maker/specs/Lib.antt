pub mod MadeLines
pub mod LoadScript
pub mod LoadDescription
