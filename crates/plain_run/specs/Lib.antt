-- what the public contracts rest on
pub mod CoreAt
pub mod Named
pub mod Decision
pub mod Ready
pub mod Made
pub mod Settled
-- what a layer above reserves
pub mod Room
