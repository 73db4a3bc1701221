pub mod Agreeing
pub mod Example
