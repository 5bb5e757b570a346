pub mod Finder
pub mod Epochs
pub mod Laws
pub mod Points
