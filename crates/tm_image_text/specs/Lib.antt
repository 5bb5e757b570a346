pub mod Prefix
pub mod Lines
pub mod ImageText
pub mod Numbers
pub mod Examples
