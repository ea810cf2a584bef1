pub mod Block
pub mod Layout
