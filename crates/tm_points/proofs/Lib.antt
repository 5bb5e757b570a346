pub mod Scanning
pub mod Back
pub mod Least
pub mod Replayable
pub mod Markers
pub mod Candidates
