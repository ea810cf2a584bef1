mod BlockValues
mod BlockSteps
pub mod LayoutLemmas
pub mod LaidLemmas
pub mod PushLemmas
pub mod StackLemmas
pub mod PopLemmas
pub mod SetLemmas
pub mod SeenLemmas
