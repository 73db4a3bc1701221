pub mod Modes
pub mod Rounds
pub mod Promises
pub mod Messages
pub mod Refusals
pub mod Outcomes
pub mod limits
