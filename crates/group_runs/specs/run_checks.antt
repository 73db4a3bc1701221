pub mod Random
pub mod Log
