pub mod Checkpoint
pub mod Ref
pub mod Slots
pub use Rattle.circular_buffer.specs.Buffer
pub use Rattle.tm_marker.specs.Shape
