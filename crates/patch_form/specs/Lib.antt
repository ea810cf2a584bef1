-- what the public contracts rest on
pub mod Framing
pub mod Answer
pub mod Laws
-- what the inner functions promise each other
pub mod Parts
