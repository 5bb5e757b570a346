pub mod Walking
pub mod Meeting
pub mod Starting
pub mod Answers
pub mod Comparing
