-- What the grammar's texts are, from the ground up.
pub mod Words
pub mod Tokens
pub mod SameWords
pub mod Marks
pub mod Rules
pub mod Values
pub mod Effects
pub mod Pieces
pub mod Reading
pub mod Source
pub mod Mapping
pub mod Front
