pub mod Older
pub mod Gathering
pub mod Clearing
