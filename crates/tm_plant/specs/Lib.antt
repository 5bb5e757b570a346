pub mod Said
pub mod Plant
pub mod Plays
pub mod Tape
pub mod Room
pub mod Examples
