pub mod Checked
pub mod Counted
