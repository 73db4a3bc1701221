pub mod counted
pub mod decided
