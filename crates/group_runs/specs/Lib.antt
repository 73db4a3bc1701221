pub mod network
pub mod run_checks
