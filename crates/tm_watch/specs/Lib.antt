pub mod Views
pub mod Dumps
pub mod History
pub mod Run
pub mod Versions
pub mod Rule
pub mod Looks
pub mod Untold
