pub mod Turns
pub mod Answered
pub mod Laws
