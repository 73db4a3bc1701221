pub mod Lister
pub mod Sheet
