-- The positions of reads and writes, and how many there are.
pub mod Sighting
pub mod MoveReads
pub mod Ring
pub mod Bounds
pub mod ClaimLemmas
-- Steps that read and write, from a cell to a turn.
pub mod Steps
pub mod OwnSteps
pub mod CheckSteps
pub mod TurnSteps
-- A look, as it is made.
pub mod QuietMoves
pub mod Near
pub mod LookLemmas
pub mod LaidCells
pub mod EmptiedCells
pub mod FlipGuesses
pub mod PlacesLemmas
pub mod Unguessed
-- A look that holds is settled: the written parts are those of the turn.
pub mod Patched
pub mod RaisedWeights
pub mod SettledWrites
pub mod WritesClear
pub mod SettledTurns
pub mod Flips
pub mod Sizes
pub mod WritesAlone
-- Two worlds, one look.
pub mod SameLooks
-- Worked values.
pub mod LooksWorked
pub mod EdgesWorked
pub mod HoldsWorked
pub mod RoundsWorked
pub mod SameLooksWorked
-- Each law, used.
pub mod LawsUsed
