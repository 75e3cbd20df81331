-- Readers that are put together.
pub mod Strict
pub mod Readers
pub mod Tokens
pub mod Words
-- Each form of line.
pub mod HeadReads
pub mod ProgramReads
pub mod RowBytes
pub mod RowReads
pub mod MarkSets
pub mod FoodReads
pub mod AntReads
pub mod DraftReads
-- Every text has one verdict, and every save one text.
pub mod Cuts
pub mod Bytes
pub mod PlainLines
pub mod Verdicts
pub mod RoundTrip
pub mod SavedLaws
pub mod SaveVerdicts
-- A world of its lines, judged and built.
pub mod WorldAgain
pub mod Standings
pub mod Floors
pub mod FilledLists
pub mod PutLemmas
pub mod Judgement
pub mod SavedBrains
-- What is written, and how a game continues.
pub mod Drafted
pub mod WrittenTexts
pub mod WholeLines
mod WholeTexts
pub mod ResumedGames
-- A game that is saved.
pub mod BrainForms
pub mod RestBounds
pub mod AfterRounds
pub mod GameSaves
pub mod PlayedSaves
mod AdvancedTexts
pub mod TextLength
-- Worked values, and the laws used on them.
pub mod SaveWorked
pub mod AdvancedWorked
pub mod LinesWorked
pub mod LawsUsed
