pub mod Around
pub mod Taking
pub mod Adding
pub mod Lifts
pub mod Variables
pub mod Places
pub mod Refusal
