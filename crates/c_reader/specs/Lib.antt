-- What the public calls say stands in the grammar's crate.
pub use Rattle.c_grammar.specs.Source
pub use Rattle.c_grammar.specs.Front
pub mod Refusal
pub mod Answered
pub mod Loose
pub mod Formed
pub mod Spelling
-- What the inner functions promise each other.
pub mod Choices
pub mod Ranks
pub mod Picks
pub mod Follow
pub mod Depth
pub mod Stacks
pub mod Outcome
