-- What the contracts of `lines_written::messages` cite.
pub mod Messages
