pub mod Direct
pub mod Stands
pub mod handlers
