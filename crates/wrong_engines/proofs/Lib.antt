pub mod InParts
pub mod Right
pub mod Answers
pub mod Runs
pub mod Less
pub mod Passing
pub mod Unseen
