-- Rounds that are played one after another.
pub mod AloneLemmas
pub mod RisingRounds
-- The reports of turns, and the watch.
pub mod ToldLemmas
pub mod RestsUntold
pub mod WatchLemmas
-- The score after a change of one cell.
pub mod ScoreLemmas
-- What is seen of a turn.
pub mod SeenLemmas
-- Windows and their counts.
pub mod CountLemmas
pub mod WindowLemmas
pub mod SingleTurnWindows
-- A game, round by round.
pub mod GameLemmas
pub mod GamesByRounds
pub mod CountLaws
-- The text of a run, and the rest of one.
pub mod PlayLemmas
pub mod RunLaws
pub mod LaterLaws
-- Worked values.
pub mod CountWorked
pub mod RunWorked
pub mod LaterWorked
-- Laws, and what is known of a game that stopped, used.
pub mod LawsUsed
pub mod StoppedUsed
