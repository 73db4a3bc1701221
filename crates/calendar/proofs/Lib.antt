pub mod Years
pub mod Months
pub mod LastPassing
pub mod Dates
pub mod Search
pub mod RoundTrip
pub mod Order
pub mod Examples
