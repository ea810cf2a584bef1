-- what the public contracts rest on, from the ground up
pub mod Status
pub mod Answer
pub mod Refusals
pub mod Wanted
pub mod Reading
pub mod Views
-- what laws of whole calls speak of
pub mod Writes
