pub mod Sums
pub mod Parts
pub mod Handlers
pub mod Calls
