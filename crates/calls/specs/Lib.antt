pub mod Asked
pub mod Decision
pub mod Commits
pub mod Replies
pub mod delivery
