pub mod Propose
pub mod proposal
