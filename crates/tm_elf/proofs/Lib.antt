pub mod Apart
pub mod Order
pub mod Right
pub mod Sound
pub mod Steps
