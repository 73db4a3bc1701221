pub mod Text
pub mod Sheet
pub mod Answer
pub mod count
