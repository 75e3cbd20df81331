-- The place of a word.
pub mod Places
-- Worked values.
pub mod Worked
-- The law, used.
pub mod LawsUsed
