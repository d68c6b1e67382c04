pub mod Number
pub mod Frame
pub mod Division
pub mod Laws
