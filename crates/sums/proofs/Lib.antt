pub mod Parts
pub mod Handlers
pub mod Calls
pub mod Own
pub mod InRuns
