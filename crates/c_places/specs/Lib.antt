pub mod Limit
pub mod Laws
pub mod Tally
