pub mod Languages
pub mod Words
pub mod Numbers
pub mod Heads
pub mod Files
pub mod Answers
pub mod Taken
