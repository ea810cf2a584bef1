-- What the public calls say stands in the grammar's crate.
pub use Rattle.c_grammar.specs.Mapping
pub mod Formats
pub mod Refusal
pub mod Answered
pub mod Formed
