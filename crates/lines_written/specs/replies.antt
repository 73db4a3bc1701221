-- What the contracts of `lines_written::replies` cite.
pub mod Reply
