pub mod Groups
pub mod registers
pub mod catching_up
