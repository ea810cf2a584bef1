pub mod Formats
pub mod Whole
pub mod Refused
pub mod Refusal
pub mod Laws
-- what the inner functions promise each other
pub mod Parts
