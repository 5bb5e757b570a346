pub mod Lines
pub mod Story
pub mod Tracks
pub mod Examples
