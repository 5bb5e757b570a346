pub mod Prefix
pub mod Views
pub mod Written
