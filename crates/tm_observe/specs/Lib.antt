pub mod Lookers
pub mod Published
pub mod Versions
