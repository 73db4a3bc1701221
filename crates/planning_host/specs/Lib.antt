pub mod Begun
pub mod Conversions
pub mod Lists
pub mod Reach
pub mod Asked
