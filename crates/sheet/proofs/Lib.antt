-- The lemmas that the functions' proofs cite, and the laws of what is read.
pub mod Printed
pub mod Decimal
pub mod Lengths
