-- Breaks as a text.
pub mod FormsLemmas
pub mod PositionsLemmas
pub mod FaultyLemmas
pub mod VerdictLemmas
-- When a break is met, and what can meet it.
pub mod MetLemmas
pub mod HillFood
pub mod QuietTurns
pub mod IdleTurns
-- The first stop, and that there is one.
pub mod ViewLaws
pub mod FirstStops
pub mod QuietRounds
pub mod AfterRounds
pub mod WatchedRounds
pub mod ViewText
-- Worked values.
pub mod WorkedTexts
pub mod WorkedBreaks
pub mod WorkedEdges
pub mod WorkedEnds
pub mod WorkedFrom
pub mod WorkedGame
pub mod WorkedSeeds
-- Laws, used.
pub mod LawsUsed
