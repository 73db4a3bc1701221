pub mod Conflict
pub mod Reach
pub mod Search
pub mod Cells
pub mod Entries
