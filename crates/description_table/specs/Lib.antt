pub mod Parts
pub mod PartViews
pub mod Views
