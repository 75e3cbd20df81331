-- Whom a turn kills.
pub mod DeathLines
-- The lines of events.
pub mod EventLemmas
pub mod EventRests
pub mod EventText
-- The lines of what ants execute.
pub mod ActText
pub mod SeenFair
-- Counts of states.
pub mod TallyLemmas
-- What is executed in a turn.
pub mod ExecutedLemmas
pub mod CountFair
-- Their text.
pub mod TallyText
-- The lines of a trace, and the text around them.
pub mod WayLines
pub mod TraceText
-- Laws.
pub mod DeathLaws
pub mod ScoreLaws
pub mod CountLaws
pub mod DumpedLines
pub mod ActLaws
-- Worked values.
pub mod EventsWorked
pub mod ActsWorked
pub mod FoodWorked
pub mod ProfileWorked
pub mod TraceWorked
-- Laws, used.
pub mod LawsUsed
