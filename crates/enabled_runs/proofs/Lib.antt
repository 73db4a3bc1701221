pub mod Lists
pub mod Listed
pub mod Enabling
pub mod Ordering
pub mod ShortRuns
