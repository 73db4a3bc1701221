pub mod Fast
pub mod Adopt
pub mod RoundState
