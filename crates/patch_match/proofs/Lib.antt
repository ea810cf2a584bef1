pub mod AnyLemmas
pub mod ClaimLemmas
pub mod MatchLemmas
pub mod SidesLemmas
pub mod OriginLemmas
pub mod NumberedLemmas
