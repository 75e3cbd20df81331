-- What a check does: who is killed, and what it leaves.
pub mod Checks
pub mod Corpses
pub mod Foes
pub mod Deaths
-- The parts of a turn.
pub mod OwnCells
pub mod TurnParts
pub mod Turns
pub mod FoundAnts
pub mod FoundTurns
-- What checks, turns and rounds keep.
pub mod KeepsLemmas
pub mod KeptByChecks
pub mod KeptByTurns
pub mod KeptByRounds
pub mod FitLemmas
pub mod HillsKept
pub mod MarksKept
pub mod StandsLemmas
-- Food and kills, counted.
pub mod Sums
pub mod FoodByRounds
pub mod KillLemmas
-- Turns that change nothing, and turns where ants have other states and rest for longer or shorter.
pub mod QuietLemmas
pub mod OtherAnts
pub mod RenumberLemmas
pub mod RenumberedTurns
-- The turns of those that rest may be taken first.
pub mod RestingTurns
pub mod RestingChunks
-- Worked values: the rules of the task, one by one.
pub mod TurnWorked
pub mod RulesWorked
pub mod EdgesWorked
pub mod HillsWorked
pub mod SheetWorked
pub mod RenumberWorked
-- Each law, used.
pub mod LawsUsed
pub mod QuietLawsUsed
pub mod RenumberLawsUsed
