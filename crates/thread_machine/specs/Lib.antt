-- what a thread between two turns stands for, and what saving its frames costs
pub mod Standing
-- the activations that are rebuilt from saved frames
pub mod Rebuilt
-- the room of a thread's stack
pub mod Room
-- what the calls of a thread leave
pub mod Threads
-- how a thread starts, and what it does next
pub mod Started
pub mod Next
-- what holds of all threads
pub mod Laws
