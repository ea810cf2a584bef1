pub mod Form
pub mod Shows
pub mod Steps
pub mod Write
