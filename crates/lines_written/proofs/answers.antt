-- How long a line may be.
pub mod Lengths
