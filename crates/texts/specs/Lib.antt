-- What the contracts of `texts` cite.
pub mod Text
pub mod blocks
pub mod fields
