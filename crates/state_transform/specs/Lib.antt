-- What the public contracts rest on.
pub use Rattle.stack_map.specs.Refusal
pub mod Parts
pub mod Whole
-- What the inner functions promise each other.
pub mod Checked
pub mod Fields
pub mod Mapped
