-- The places of addresses, and that each is numbered once.
pub mod Addresses
pub mod Firsts
pub mod Brains
-- A turn that names states by addresses is the turn that names them by numbers.
pub mod NextStates
pub mod LabelTurns
pub mod LabelGames
pub mod Scores
-- What is expanded is the program.
pub mod FlatLemmas
pub mod Emission
-- Lines and their faults.
pub mod TextLemmas
pub mod LineSteps
pub mod LineTokens
pub mod LineForms
pub mod LineLemmas
pub mod TakeAll
-- From line to line, and to the end of the text.
pub mod OpenLemmas
pub mod ReadingLemmas
pub mod BlockLemmas
pub mod ProgramLemmas
pub mod Expansion
pub mod HasAssembled
pub mod OnAnswers
pub mod MadeLists
-- The names of bodies, and the labels and the lines of a program.
pub mod LabelTexts
pub mod OutlineLemmas
pub mod OutlineReading
pub mod OutlineFits
pub mod LabelStates
pub mod LineStates
pub mod LabelWalk
pub mod LabelSteps
pub mod Lefts
pub mod Walks
pub mod Works
pub mod SourceRead
pub mod LineInstructions
-- Worked values.
pub mod Worked
mod WorkedLabels
-- Each law, used.
pub mod LawsUsed
