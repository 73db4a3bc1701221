pub mod Runs
pub mod Told
pub mod Beginning
