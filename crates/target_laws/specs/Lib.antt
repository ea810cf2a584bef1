pub mod SavedFrames
pub mod Laws
pub mod Rows
pub mod Effects
