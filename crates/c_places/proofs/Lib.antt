pub mod SizeLemmas
pub mod EnterLemmas
pub mod LayLemmas
pub mod FlowLemmas
pub mod TallyLemmas
