-- How long an answer is.
pub mod Lengths
