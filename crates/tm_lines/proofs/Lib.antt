pub mod Cuts
pub mod Bounds
pub mod Fronts
pub mod Steps
pub mod Keeping
pub mod Long
pub mod First
pub mod Calm
