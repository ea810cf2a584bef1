pub mod SizeLemmas
pub mod CodeLemmas
pub mod MarkLemmas
pub mod StackLemmas
mod Programs
mod Rows
mod RowExamples
mod CodeExamples
mod SeenExamples
