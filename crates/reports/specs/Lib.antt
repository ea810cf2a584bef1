pub mod Trap
pub mod Words
pub mod Line
pub mod Laws
