pub mod Bytes
pub mod Following
pub mod Rising
pub mod Running
pub mod Kept
