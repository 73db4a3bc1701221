pub mod EntriesAsked
pub mod Lengths
pub mod Unmade
