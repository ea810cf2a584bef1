-- of names
pub mod SlotLemmas
pub mod PartLemmas
