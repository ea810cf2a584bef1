pub mod SingleParts
mod Refusals
mod Files
mod Answers
mod Made
