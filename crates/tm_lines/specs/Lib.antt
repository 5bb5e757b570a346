pub mod Steps
pub mod Lines
pub mod Numbers
pub mod Laws
