pub mod EPaxos
