pub mod LineLemmas
pub mod NameLemmas
pub mod LoopLemmas
pub mod BlockLemmas
pub mod RebuildLemmas
pub mod FunctionLemmas
mod Examples
