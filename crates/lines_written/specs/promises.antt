-- What the contracts of `lines_written::promises` cite.
pub mod Promises
