pub mod accept
pub mod prepare
