-- What the contracts of `texts::fields` cite.
pub mod Fields
