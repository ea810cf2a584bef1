pub mod PointLemmas
pub mod TallyLemmas
pub mod TextLemmas
