pub mod Numbers
pub mod Written
