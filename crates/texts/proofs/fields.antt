pub mod Words
mod Places
pub mod ReadBack
pub mod FieldsRead
