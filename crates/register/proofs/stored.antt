pub mod Old
pub mod Laws
pub mod Behind
pub mod Examples
