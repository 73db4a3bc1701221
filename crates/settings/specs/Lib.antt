pub mod Settings
pub mod Questions
