pub mod CoreAnswers
pub mod Handled
