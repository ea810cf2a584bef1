pub mod Line
pub mod Inside
pub mod Declarations
pub mod Statements
pub mod Loops
pub mod Blocks
pub mod TargetText
