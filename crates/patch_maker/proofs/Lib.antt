pub mod SortLemmas
pub mod KeyLemmas
pub mod SubjectLemmas
mod EntriesLemmas
mod MakerLemmas
