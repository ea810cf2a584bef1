pub mod StackLemmas
pub mod Unwinding
pub mod PartLemmas
pub mod Rebuilding
pub mod RebuildLemmas
pub mod StartLemmas
pub mod PlaceLemmas
pub mod TurnLemmas
