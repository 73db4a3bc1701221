pub mod Laws
pub mod Engines
pub mod InParts
