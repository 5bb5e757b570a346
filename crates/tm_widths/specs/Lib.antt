pub mod Numbers
pub mod Legible
