pub mod Kept
pub use Rattle.circular_buffer.specs.Buffer
