pub mod line_calls
pub mod line_states
