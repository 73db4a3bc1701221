pub mod answers
pub mod faults
pub mod messages
pub mod promises
pub mod replies
pub mod shards
