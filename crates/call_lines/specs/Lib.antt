pub mod Reading
pub mod dates
