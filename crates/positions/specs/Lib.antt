pub mod Grid
pub mod Placed
pub mod PlacedTaken
