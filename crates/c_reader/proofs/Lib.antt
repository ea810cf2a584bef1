mod KindNumbers
pub mod Choice
pub mod LeftOut
pub mod Tables
pub mod Turns
mod Factoring
pub mod Sorts
pub mod SortRuns
pub mod SortTables
pub mod Trees
pub mod Depths
pub mod Outcomes
pub mod Keeps
pub mod Limits
pub mod Bounded
pub mod BoundedReads
pub mod Kept
pub mod Sources
pub mod Answered
mod Fronts
mod NearestElse
mod Forms
mod FormOrder
mod FormRuns
mod FormTables
mod FormEffects
mod FormReadings
mod Names
mod FormTokens
pub mod Formed
pub mod Spelling
