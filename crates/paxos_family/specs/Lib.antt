pub mod Process
pub mod Commit
