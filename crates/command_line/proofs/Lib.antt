pub mod FaultFree
pub mod BareLemmas
pub mod NumbersPass
pub mod LawLemmas
pub mod CommandLemmas
mod Examples
