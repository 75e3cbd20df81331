-- Borders of shares.
pub mod BordersLemmas
-- Worked values.
pub mod Worked
-- Each law, used.
pub mod LawsUsed
