-- Words and slots of a board: their sums.
pub mod BoardTotalLemmas
pub mod BoardTickets
-- What each step keeps.
pub mod BoardKeeps
pub mod BoardMoves
pub mod BoardSteps
pub mod BoardBook
pub mod BoardLooks
pub mod BoardStart
-- A board at work, and closed.
pub mod BoardWorkers
pub mod BoardSeatLists
pub mod BoardLawLemmas
pub mod BoardWays
pub mod BoardEnd
-- Guesses, and pieces.
pub mod GuessLemmas
pub mod ShareLemmas
pub mod PieceLemmas
-- Worked values.
pub mod WorkedBoard
-- Each law, used.
pub mod LawsUsed
