pub mod Room
pub mod Counted
