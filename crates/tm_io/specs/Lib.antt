pub mod Counts
pub mod NamedRooms
pub mod Faults
pub mod Shelf
pub mod Sink
pub mod ShelfState
pub mod SinkState
