-- Laws of every book that stands: its next turn may be settled, and the events of workers lead to it (this project's
-- own).
use Rattle.std.specs.Prelude.{◌≡◌, ℕ, ◌-◌, ◌<◌, ◌≤◌, List, Option, Some, None}
use Rattle.std.specs.List.{AllByRecursion}
use Rattle.cell_world.specs.Grid.{world_of}
use Rattle.ant_turn.specs.Minds.{Fits, Minds}
use Rattle.spec_record.specs.Look.{LookValue}
use Rattle.round_book.specs.declared.verdict.Cause.{Cause}
use Rattle.round_book.specs.declared.verdict.Verdict.{Verdict}
use Rattle.round_book.specs.declared.verdict.Verdict.TheVariants.{Taken, Redone}
use Rattle.round_book.specs.Book.{AgreesUnwritten, BookValue, CanTake, FieldValue, HoldsInBook, IsCause, IsRedone, IsSameWindow, IsTaken, StandsFor, begun, moment_of, window_of}
use Rattle.round_book.specs.Machine.{AreLawful, Event, IsLawful, IsPut, State, first_state, happens, run}
use Rattle.round_book.specs.Machine.Event.{Settles}
use Rattle.round_book.specs.Window.{Window, look_for}

-- the look at a book's next turn, on the window's base at the turn's guess
abbrev pub next_look : Window → BookValue → LookValue
next_look window book = look_for window book.next

-- what settling a look requires, and what executing its turn again with these brains requires
pub record MaySettle (minds : Minds) (book : BookValue) (look : LookValue) : Type 0 where
  pub turn : look.turn ≡ book.next
  pub unwritten : AllByRecursion (AgreesUnwritten book) look.reads
  pub writes : HoldsInBook book look → CanTake (world_of book.world) look.writes
  pub fit : Fits (world_of book.world) minds

-- a turn of a book was settled by a look: settling returned nothing, and the look was used; or it returned why the look
-- isn't valid, and the turn was executed again for that cause, by these brains
abbrev pub IsSettled : Minds → LookValue → Option Cause → BookValue → BookValue → Type 0
IsSettled minds look None book new = IsTaken look book new
IsSettled minds look (Some found) book new = IsCause look (moment_of book) found × IsRedone minds found book new

-- if a book stands for a window, and its next turn is one of the window's, the look at that turn may be settled; and
-- once it is settled the book stands for the window
pub record StandingBooksSettle : Type 0 where
  pub may : (window : Window) (book : BookValue) → StandsFor window book → book.next < book.to
      → MaySettle window.minds book (next_look window book)
  pub stands : (window : Window) (answer : Option Cause) (book new : BookValue) →
      StandsFor window book → book.next < book.to → IsSettled window.minds (next_look window book) answer book new
      → IsSameWindow book new → StandsFor window new

-- a state of the workers on a window and a book of it have the same next turn, world, place and verdicts
pub record IsAt (state : State) (book : BookValue) : Type 0 where
  pub next : state.next ≡ book.next
  pub now : state.now ≡ moment_of book
  pub verdicts : state.verdicts ≡ book.verdicts

-- the verdict on a turn whose look was settled with this answer
abbrev pub verdict_of : Option Cause → Verdict
verdict_of None = Taken
verdict_of (Some found) = Redone found

-- a book at the start of a window matches the first state; lawful events lead from there to every book that stands; and
-- settling a book's next turn, whose look was put, is one lawful event
pub record BooksAreReached : Type 0 where
  pub first : (field : FieldValue) (from to : ℕ) → IsAt (first_state (window_of field from to)) (begun field from to)
  pub reached : (window : Window) (book : BookValue) → StandsFor window book → book.next ≤ book.to →
      (events : List Event) × AreLawful window (first_state window) events
      × IsAt (run window (first_state window) events) book
  pub settled : (window : Window) (answer : Option Cause) (book new : BookValue) (state : State) →
      StandsFor window book → book.next < book.to → IsSettled window.minds (next_look window book) answer book new
      → IsAt state book → IsPut state (book.next - book.from) →
      IsLawful window state (Settles (verdict_of answer))
      × IsAt (happens window state (Settles (verdict_of answer))) new
