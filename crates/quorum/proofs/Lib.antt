-- The laws of the quorums.
pub mod Rules
