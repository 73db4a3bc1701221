-- What the contracts of `planning_lines::lists` cite: a list on a line, what is kept of it, two joined, one fed, and what is answered; and how lists are written.
pub mod Lists
pub mod Kept
pub mod Joins
pub mod Feeds
pub mod Answers
pub mod Written
