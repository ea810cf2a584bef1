-- what the public contracts rest on
pub mod History
pub mod Listing
-- what the inner functions promise each other
pub mod Taken
