pub mod NameLemmas
pub mod SortLemmas
pub mod FoundLemmas
pub mod MeaningLemmas
