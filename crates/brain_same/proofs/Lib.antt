-- Classes, and where answers lead.
pub mod ClassesLemmas
pub mod AnswersLemmas
-- The search, and what it comes to.
pub mod SearchLemmas
pub mod ComparisonLemmas
pub mod HasComparison
-- What it is to be the same, and games.
pub mod SameLaws
pub mod PairedBrains
pub mod SameGames
-- The way to a difference.
pub mod WayLemmas
pub mod ReachedLemmas
-- Worked values, and the laws used on them.
pub mod Worked
pub mod WorkedWays
pub mod LawsUsed
