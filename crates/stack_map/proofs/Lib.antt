-- of unchanged functions
pub mod SameLemmas
pub mod StmtLemmas
pub mod BodyLemmas
-- of what fills new slots and fields
pub mod EntryLemmas
pub mod SubjectLemmas
pub mod CarryLemmas
-- of frames
pub mod KeptLemmas
pub mod LinkLemmas
pub mod PartLemmas
pub mod FrameLemmas
pub mod FillingsFrom
