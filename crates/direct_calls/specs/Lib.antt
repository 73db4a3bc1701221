pub mod Runs
pub mod Told
