-- What the contracts of `lines_written::shards` cite.
pub mod Shard
