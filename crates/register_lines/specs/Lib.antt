-- What the contracts of `register_lines` cite, and how a line that begins a register is written.
pub mod Answers
pub mod Written
pub mod entries
