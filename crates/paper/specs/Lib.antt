pub mod Replica
pub mod PaperCall
pub mod Runs
