pub mod DeviceEvents
pub mod DueLemmas
