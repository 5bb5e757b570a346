pub mod Script
pub mod Summary
pub mod Making
