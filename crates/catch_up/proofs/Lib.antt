-- The laws of the join, and those that the functions' proofs cite.
mod Loops
mod Answers
pub mod Deciding
pub mod Indices
mod Ordered
mod Alike
pub mod Exact
pub mod Slots
pub mod Agreeing
pub mod Calls
pub mod Examples
