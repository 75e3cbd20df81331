-- Texts: what each command writes, that it is one, is there, and ends in LF.
pub mod SetupLemmas
pub mod CupGames
pub mod Cups
pub mod Viewed
pub mod TextEnds
pub mod ReadContents
pub mod Texts
pub mod JobTexts
pub mod WorkerLaws
-- What is fetched and judged, file by file.
pub mod Readings
pub mod PrintedCups
pub mod Verdicts
pub mod Judgements
pub mod Accepted
pub mod Listed
-- The commands.
pub mod SampleWorked
pub mod Generated
pub mod Planned
pub mod Untouched
pub mod Workloads
-- The laws: labelled games, saves, the headline, one run.
pub mod LabelledGames
pub mod ResumedGames
pub mod Headlines
pub mod RunWords
pub mod RunPromises
mod FirstWorlds
-- Worked values, and the laws used on them.
pub mod HelpWorked
pub mod WorkedStops
pub mod WorkedJobs
pub mod RunWorked
pub mod LawsUsed
