pub mod Order
pub mod NextLeader
pub mod Comparisons
