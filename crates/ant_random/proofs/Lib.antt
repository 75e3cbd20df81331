-- A step and a jump.
pub mod StepLemmas
pub mod JumpLemmas
-- Worked values: the numbers of the task.
pub mod Worked
