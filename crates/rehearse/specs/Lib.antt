pub mod Story
pub mod Reasons
