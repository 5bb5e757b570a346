pub mod Parsing
pub mod Refusing
pub mod Ranges
pub mod WatchRanges
pub mod Driving
pub mod Watching
