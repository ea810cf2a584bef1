-- what contracts rest on
pub mod Seen
pub mod Word
pub mod Named
pub mod Log
