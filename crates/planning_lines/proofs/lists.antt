-- The laws of lists on lines, and what the functions cite.
mod ListsRead
mod Kept
mod JoinsRead
mod FeedsRead
pub mod JoinsWritten
pub mod Laws
