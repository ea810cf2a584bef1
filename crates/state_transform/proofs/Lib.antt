pub mod FieldsFrom
pub mod GlobalLemmas
pub mod LinkLemmas
pub mod OwnersFrom
pub mod StructLemmas
pub mod UpdateLemmas
