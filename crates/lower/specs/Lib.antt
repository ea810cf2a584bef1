-- the numbers of texts as they are kept
pub mod Texts
pub mod Numbers
-- the extent of rebuilding parts
pub mod Calls
