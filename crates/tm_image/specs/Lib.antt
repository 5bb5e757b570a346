pub mod Plan
pub mod Said
pub mod Load
pub mod Draft
pub mod Image
pub mod Examples
