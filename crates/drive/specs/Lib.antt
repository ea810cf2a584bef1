-- what the public contracts rest on
pub mod Driven
pub mod Laws
-- what the inner functions promise each other
pub mod Listed
pub mod Measure
pub mod OnWay
