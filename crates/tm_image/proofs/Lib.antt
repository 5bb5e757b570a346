pub mod Masks
pub mod Kept
pub mod Fits
pub mod Sets
pub mod Wholes
pub mod Counts
pub mod Calm
pub mod Long
