-- What the public contracts rest on.
pub mod Typed
pub mod Gives
-- What the inner functions promise each other.
pub mod Forms
pub mod Numbers
pub mod Rest
