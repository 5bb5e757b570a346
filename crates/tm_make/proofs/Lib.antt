pub mod Slices
pub mod Runs
pub mod Windows
pub mod Refusals
