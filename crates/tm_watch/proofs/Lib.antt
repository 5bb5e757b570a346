pub mod Prefixes
mod Adding
mod Showing
mod Dumping
mod Seating
pub mod Sending
