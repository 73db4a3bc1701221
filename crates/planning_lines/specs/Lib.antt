-- What the contracts of `planning_lines` cite.
pub mod Questions
pub mod Answers
pub mod stored
pub mod placed
pub mod change_windows
pub mod lists
