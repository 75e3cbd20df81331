-- The machine of windows: draw, put, settle.
pub mod MachineLemmas
pub mod ReachedBooks
-- A book: its marks, its world, its verdicts.
pub mod MarkLemmas
pub mod PassLemmas
pub mod WindowLemmas
pub mod BookLemmas
pub mod VerdictLemmas
pub mod WorkspaceLemmas
-- Fields, guesses and counts.
pub mod CountLemmas
pub mod FieldLemmas
pub mod SoloLemmas
pub mod GuessLemmas
-- Crews.
pub mod LedLemmas
pub mod SingleTurns
-- Worked values.
pub mod CountsWorked
pub mod MachineWorked
-- Each law, used.
pub mod LawsUsed
