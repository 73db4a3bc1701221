pub mod Every
pub mod Stored
