-- The laws that the functions' proofs cite, those of whoever puts texts, and how long a text may be.
pub mod Putting
mod Decimal
pub mod Lengths
