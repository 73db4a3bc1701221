pub mod epaxos
pub mod swift
