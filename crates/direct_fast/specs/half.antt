pub mod FastArrays
