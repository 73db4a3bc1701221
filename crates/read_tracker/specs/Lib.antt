pub mod Reads
pub mod serving
