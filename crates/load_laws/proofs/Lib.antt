mod Programs
-- the sources: what their names stand for, their types and their lifting
mod DeclaredNames
mod SourceNames
mod SourceTypes
mod SourceLifting
mod SourceProgram
-- from text to tokens, and from tokens to a derivation
mod SourceTokens
mod Derivation
mod SourceForm
mod SourceTexts
mod SourceSections
mod Accepted
-- the mapping: its entries by names and by numbers, their order and their text
mod MappingEntries
mod MappingNumbers
mod MappingLifts
mod MappingOrder
mod MappingText
mod MappingKept
mod MappingSound
-- all of it
mod Law
