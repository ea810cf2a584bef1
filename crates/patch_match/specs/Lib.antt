-- What the inner functions promise each other.
pub mod Sides
pub mod Matching
pub mod Origins
pub mod Linking
