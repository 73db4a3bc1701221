pub mod Turns
mod NumbersRead
pub mod WindowsRead
pub mod Laws
