pub mod Onward
pub mod Seeing
pub mod Settling
pub mod Ended
