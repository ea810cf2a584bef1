-- the code of a program
pub mod Operands
pub mod Code
-- what the machine does with it, and what its threads stand for
pub mod Target
pub mod Machine
pub mod Seen
-- its run over events, and what is true between two of them
pub mod TargetRun
pub mod Between
-- what the contracts of stacks rest on
pub mod Stack
-- what unfolds where examples are computed
pub mod Compute
