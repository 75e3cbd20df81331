-- Games in order, and how they are cut into pieces.
pub mod GamesLemmas
pub mod PiecesLemmas
-- Points, totals and the standing.
pub mod TotalLemmas
pub mod LawsLemmas
pub mod SortedLines
pub mod StandingLemmas
pub mod TallyLemmas
-- Games that are printed.
pub mod PrintedLemmas
-- Names.
pub mod NamesLemmas
-- Worked values, and the laws used on them.
pub mod Worked
pub mod LawsUsed
