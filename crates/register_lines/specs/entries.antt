-- What the contracts of `register_lines::entries` cite, and how entries are written.
pub mod Signed
pub mod Entries
pub mod Reports
pub mod Written
