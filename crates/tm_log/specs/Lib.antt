pub mod Caps
pub mod Window
pub mod WellFormed
pub mod Points
pub use Rattle.tm_marker.specs.Shape
pub use Rattle.tm_ring.specs.Buffer
pub use Rattle.tm_ring.specs.Kept
pub use Rattle.tm_check.specs.Checkpoint
