-- what the contracts of a Store rest on
pub mod Access
pub mod Memory
pub mod Answer
pub mod Laws
-- what the inner functions promise each other
pub mod Printed
