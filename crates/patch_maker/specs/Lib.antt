-- what the public contracts rest on
pub mod Made
-- what the inner functions promise each other
pub mod Order
pub mod Subjects
pub mod Judged
