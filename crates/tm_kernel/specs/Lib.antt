pub mod Spec
pub mod Mailboxes
pub mod State
pub mod Service
pub mod Schedule
pub mod Laws
pub mod Nesting
