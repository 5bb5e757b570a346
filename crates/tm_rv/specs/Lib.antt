pub mod Table
pub mod Instr
pub mod ByFields
pub mod Names
pub mod Laws
pub mod Word
pub mod Code
