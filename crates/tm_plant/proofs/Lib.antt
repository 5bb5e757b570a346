pub mod Calm
pub mod Long
pub mod Adding
pub mod Spelled
pub mod Tapes
