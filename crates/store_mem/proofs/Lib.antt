pub mod AccessLemmas
pub mod KeepLemmas
pub mod MarkLemmas
