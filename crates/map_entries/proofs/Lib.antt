-- of expressions
pub mod LiftLemmas
pub mod TypeLemmas
-- of entries
pub mod NumberLemmas
pub mod SuitLemmas
pub mod TwiceLemmas
pub mod PartLemmas
mod PointOfLemmas
mod AloneLemmas
