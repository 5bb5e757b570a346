pub mod Lists
pub mod Moments
pub mod Ending
pub mod Scripts
pub mod Consistent
mod Copying
pub mod WindowOf
pub mod Replies
pub mod KeptLists
pub mod Histories
pub mod Marks
pub mod Switches
pub mod Items
pub mod WellFormed
