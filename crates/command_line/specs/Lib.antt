-- what the public contracts rest on, from the ground up
pub mod Options
pub mod Command
pub mod Laws
-- what the inner functions promise each other
pub mod Views
pub mod Bare
