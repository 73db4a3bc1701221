pub mod Arrays
pub mod FastArrays
pub mod Told
pub mod reads
