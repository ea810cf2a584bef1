pub mod SizeLemmas
pub mod BlockLemmas
pub mod StatementLemmas
pub mod PlaceLemmas
pub mod CallLemmas
pub mod TextLemmas
pub mod FunctionLemmas
