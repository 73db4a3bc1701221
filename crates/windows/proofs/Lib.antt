pub mod Turns
pub mod Laws
pub mod Kept
pub mod Examples
