-- of a mapping that was read
mod Literals
mod Contracts
mod Operands
mod EntriesKept
mod MapRules
mod Kept
-- from tokens to a derivation
mod Printed
mod Levels
mod Forms
mod ReadsBack
-- from text to tokens
pub mod Scan
mod Shown
-- from numbers to numbers
mod Numbering
mod Spelt
mod Fits
mod Places
pub mod Again
mod PointAgain
-- from an entry to its tokens
mod Joined
mod Parts
mod Fills
mod PartTexts
mod Entries
-- all of it
pub mod Whole
mod Law
