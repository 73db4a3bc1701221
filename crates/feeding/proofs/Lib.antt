-- The laws of feeding, and what the functions cite.
pub mod FeedTurns
pub mod FeedLaws
pub mod FeedNumbers
pub mod JoinFed
pub mod FedBelow
pub mod FeedExamples
pub mod PlacedExample
