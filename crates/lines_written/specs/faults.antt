-- What the contract of `lines_written::faults` cites.
pub mod Faults
