pub mod Masks
pub mod Apart
pub mod Rows
pub mod Encoded
pub mod Decoded
pub mod Kept
