-- Turns with their guesses (this project's own).
use Rattle.std.specs.Prelude.{◌≡◌, ℕ, ◌+◌, ◌-◌, ◌<◌, ◌≤◌, ◌^◌, length}
use Rattle.std.specs.List.{AllByRecursion}
use Rattle.cell_world.specs.Grid.{Grid}
use Rattle.ant_turn.specs.Minds.{Minds}
use Rattle.round_book.specs.Book.{CanBegin, FieldValue, window_of}
use Rattle.round_book.specs.Window.{Window, guesses_for}
use Rattle.far_crew.specs.declared.guesses.GuessedTurns.{GuessedTurns}
use Rattle.far_crew.specs.Jobs.{JobValue}

-- the window of these turns that begins on a field
abbrev pub window_on : FieldValue → GuessedTurns → Window
window_on field turns = window_of field turns.from turns.to

-- these are the turns of a window that may begin on a field, with their guesses
pub record AreTurnsOf (field : FieldValue) (turns : GuessedTurns) : Type 0 where
  pub begins : CanBegin field turns.from turns.to
  pub guesses : turns.guesses.now ≡ guesses_for (window_on field turns)

-- a look can be made at these turns on a world: they are ids of it, and each has a guess at which a number can be drawn
pub record CanLookAt (base : Grid) (turns : GuessedTurns) : Type 0 where
  pub forwards : turns.from ≤ turns.to
  pub ids : turns.to ≤ base.ids
  pub count : length turns.guesses.now ≡ turns.to - turns.from
  pub small : AllByRecursion (λ guess. guess + 1 < 2 ^ 63) turns.guesses.now

-- the job of these turns, with these brains, this seed and this world
abbrev pub job_on : Minds → ℕ → Grid → GuessedTurns → JobValue
job_on minds seed base turns = record {
  minds = minds;
  seed = seed;
  base = base;
  from = turns.from;
  to = turns.to;
  guesses = turns.guesses.now;
}
