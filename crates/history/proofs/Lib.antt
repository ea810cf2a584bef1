pub mod DigitLemmas
pub mod NumberLemmas
pub mod ReasonLemmas
pub mod KindLemmas
pub mod LineLemmas
