pub mod Claim
pub mod Steps
