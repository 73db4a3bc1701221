pub mod Responses
pub mod Commits
pub mod NothingLost
pub mod IdOrder
pub mod QuorumOne
pub mod NoReads
