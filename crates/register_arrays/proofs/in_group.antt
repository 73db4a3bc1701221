pub mod GroupArrayLaws
pub mod StoredLaws
