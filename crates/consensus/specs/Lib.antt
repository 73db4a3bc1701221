pub mod Answers
pub mod Handle
pub mod Call
pub mod Rows
pub mod Panics
pub mod FirstCause
