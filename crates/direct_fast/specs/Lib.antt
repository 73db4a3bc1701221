pub mod DirectFast
pub mod FastStands
pub mod finish
pub mod half
