-- Which look settles each turn of a window.
use Rattle.std.specs.Prelude.{◌≡◌, ℕ, ◌+◌, ◌-◌, ◌<◌, true, List, [], Option, Some, None, length, slice_get, slice_index_or}
use Rattle.std.specs.Option.{is_some}
use Rattle.round_book.specs.Book.{FieldValue}
use Rattle.round_book.specs.Window.{Window, look_for}
use Rattle.spec_record.specs.Look.{LookValue}
use Rattle.far_crew.specs.declared.guesses.GuessedTurns.{GuessedTurns}
use Rattle.far_crew.specs.declared.channels.WorkerChannels.{WorkerChannels}
use Rattle.far_crew.specs.declared.pick.Pick.{Pick}
use Rattle.far_crew.specs.declared.pick.Pick.TheVariants.{Theirs, Own}
use Rattle.far_crew.specs.Inner.Turns.{window_on}
use Rattle.far_crew.specs.Jobs.{FoundValue}

-- the looks of an answer, if there is one
abbrev pub looks_of_answer : Option FoundValue → List LookValue
looks_of_answer None = []
looks_of_answer (Some found) = found.looks

-- the looks that a line has
abbrev pub looks_of_line : Option WorkerChannels → List LookValue
looks_of_line None = []
looks_of_line (Some line) = looks_of_answer line.found

-- the looks in the answer of the line with this number
abbrev pub looks_in : List WorkerChannels → ℕ → List LookValue
looks_in lines i = looks_of_line (slice_get lines i)

-- the look that a pick names, among the answers of these lines and these own looks
abbrev pub look_named : List WorkerChannels → List LookValue → Pick → Option LookValue
look_named lines own (Theirs line at) = slice_get (looks_in lines line) at
look_named lines own (Own at) = slice_get own at

-- each pick names the look at its turn of the window
abbrev pub ArePicked : List WorkerChannels → List LookValue → List (Option Pick) → Window → Type 0
ArePicked lines own picks window =
    (j : ℕ) (pick : Pick) → slice_index_or picks j None ≡ Some pick
    → look_named lines own pick ≡ Some (look_for window (window.from + j))

-- there is a place for the pick of each of these turns of a field, and each pick names the look at its turn
pub record ArePicksOf (field : FieldValue) (turns : GuessedTurns) (lines : List WorkerChannels) (own : List LookValue)
    (picks : List (Option Pick)) : Type 0 where
  pub count : length picks ≡ turns.to - turns.from
  pub picked : ArePicked lines own picks (window_on field turns)

-- no turn has a pick
abbrev pub AreNone : List (Option Pick) → Type 0
AreNone picks = (j : ℕ) → slice_index_or picks j None ≡ None

-- each of the first n turns has a pick
abbrev pub AreFilled : List (Option Pick) → ℕ → Type 0
AreFilled picks n = (j : ℕ) → j < n → is_some (slice_index_or picks j None) ≡ true
