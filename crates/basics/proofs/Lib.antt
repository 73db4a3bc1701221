pub mod Tests
pub mod Places
