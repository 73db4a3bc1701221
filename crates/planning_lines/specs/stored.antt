pub mod Lines
pub mod Answers
