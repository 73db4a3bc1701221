-- The laws that the functions' proofs cite, and how long the texts are.
mod Proposers
pub mod Lengths
