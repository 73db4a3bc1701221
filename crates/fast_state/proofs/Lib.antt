pub mod Adopting
pub mod Stored
