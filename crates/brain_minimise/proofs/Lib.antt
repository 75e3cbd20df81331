-- States under other numbers, and what is equivalent.
pub mod CasesInstruction
pub mod RedirectedLemmas
pub mod Equivalences
-- The classes: refined, merged, numbered from the first on.
pub mod Refinement
pub mod Search
pub mod Numbers
pub mod MinimisedLemmas
pub mod Ranks
-- There is one minimised brain, it is one, and it plays the same game.
pub mod Uniqueness
pub mod MinimisedGames
pub mod HasMinimised
-- Texts, worked values, and the laws used on them.
pub mod Texts
pub mod Worked
pub mod WorkedTen
pub mod LawsUsed
