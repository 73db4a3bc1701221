pub mod Limits
pub mod Admit
