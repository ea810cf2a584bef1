pub mod Playing
pub mod Leaving
pub mod Reading
pub mod Rereading
pub mod Held
