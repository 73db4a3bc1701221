pub mod Enabled
pub mod Listing
pub mod Order
pub mod Offices
