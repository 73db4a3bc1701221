-- The laws of lists from a group run.
pub mod Runs
pub mod RunExample
pub mod CatchUp
pub mod JoinedFed
pub mod CatchUpExample
