pub mod Ceilings
pub mod Alarms
pub mod Held
pub mod Waiting
