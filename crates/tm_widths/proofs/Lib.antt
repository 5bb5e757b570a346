pub mod Kernels
pub mod Images
pub mod Bodies
pub mod Runs
pub mod Windows
pub mod Telling
pub mod Shortness
