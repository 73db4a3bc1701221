pub mod Became
pub mod Rows
pub mod Steps
pub mod Laws
pub mod Examples
