pub mod Lines
pub mod Reminders
