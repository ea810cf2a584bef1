-- of lists, names and places
pub mod Sorting
pub mod Numbers
pub mod Beside
-- the canonical order
pub mod Kept
-- of one entry that was lifted
pub mod LiftedForms
pub mod Clash
-- of one entry's causes
pub mod LeastCause
pub mod AskedInOrder
-- of all entries
pub mod Known
-- links
pub mod Within
pub mod LiftedLink
pub mod OrderedLink
-- soundness
pub mod LiftedSound
