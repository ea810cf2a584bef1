-- What the public contracts rest on.
pub mod Refusal
pub mod Filled
pub mod Subjects
-- What the inner functions promise each other.
pub mod Kept
pub mod PlacesOf
pub mod Moved
pub mod Added
