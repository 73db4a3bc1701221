pub mod Levels
pub mod Searching
pub mod Laws
