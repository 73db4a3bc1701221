-- The laws that the loop over windows cites, and that windows are read as they are written.
pub mod Turns
pub mod ReadBack
