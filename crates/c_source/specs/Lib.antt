pub mod Source
pub mod Refusal
pub mod Laws
