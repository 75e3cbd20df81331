-- The table: each row once.
pub mod PiecesLemmas
pub mod ListLemmas
pub mod EveryValue
pub mod TableLemmas
-- Words walked over, one after another.
pub mod WalkSearch
pub mod WalkAmong
pub mod WalkSteps
pub mod WalkNames
pub mod WalkShapes
pub mod WalkCompletions
-- Commands read, and the word that is refused.
pub mod AnswersLemmas
pub mod WithinLemmas
pub mod ReadLemmas
pub mod FarWords
pub mod WordLaws
pub mod SaidLemmas
-- Worked lines, and the laws used on them.
pub mod WorkedLines
pub mod WorkedCups
pub mod WorkedFronts
pub mod WorkedOptions
pub mod WorkedHelp
pub mod LawsUsed
