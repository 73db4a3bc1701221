-- What the contract of `lines_written::answers` cites.
pub mod Answer
