pub mod Lengths
pub mod Rest
