pub mod Strides
pub mod Rows
pub mod Moving
