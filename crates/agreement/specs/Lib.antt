pub mod Voting
pub mod Model
pub mod Engine
pub mod Refinement
