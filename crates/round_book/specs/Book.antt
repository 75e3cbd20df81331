-- Fields and books: a game's world, and a window of its turns that is being settled (this project's own).
use Rattle.std.specs.Prelude.{◌≡◌, ◌≢◌, ◌⊎◌, ◌↔◌, ℕ, ◌+◌, ◌-◌, ◌<◌, ◌≤◌, ◌^◌, Bool, true, false, List, ◌∷◌, [], ◌++◌, map, Option, Some, None}
use Rattle.std.specs.List.{AllByRecursion, Contains}
use Rattle.hex_geometry.specs.declared.position.Pos.{Pos}
use Rattle.hex_geometry.specs.Position.{IsInside}
use Rattle.cell_world.specs.declared.part.Part.{Part}
use Rattle.cell_world.specs.Cell.{one_if}
use Rattle.cell_world.specs.Grid.{Grid, world_of}
use Rattle.cell_world.specs.Parts.{Agree, Alike, CanPatch, has_part}
use Rattle.cell_world.specs.World.{Cells, World, with_cells}
use Rattle.ant_turn.specs.Minds.{Minds}
use Rattle.ant_turn.specs.Rounds.{Moment, after_turn}
use Rattle.spec_record.specs.Claims.{Sighting, seen_cell, seen_parts, seen_place, seen_positions}
use Rattle.spec_record.specs.Holds.{LookHolds}
use Rattle.spec_record.specs.Look.{LookValue}
use Rattle.spec_record.specs.Patches.{CanSetWrites, patched_cells}
use Rattle.spec_record.specs.Writes.{writes}
use Rattle.round_book.specs.declared.verdict.Cause.{Cause}
use Rattle.round_book.specs.declared.verdict.Cause.TheVariants as cause
use Rattle.round_book.specs.declared.verdict.Verdict.{Verdict}
use Rattle.round_book.specs.declared.verdict.Verdict.TheVariants.{Taken, Redone}
use Rattle.round_book.specs.Window.{Window, AreVerdicts, IsPlayable, moment_before}

-- what a contract sees of a field: a game's world, brains, seed and place in the stream; whether it is whole; and if it
-- is lent, the first id and the end of its window
pub record FieldValue : Type 0 where
  pub world : Grid
  pub minds : Minds
  pub seed : ℕ
  pub place : ℕ
  pub whole : Bool
  pub lent : Option (ℕ × ℕ)

-- what a contract sees of a book: the window's seed and turns, the next turn, the world and the place after the turns
-- before it, the positions that they wrote, and their verdicts in order
pub record BookValue : Type 0 where
  pub seed : ℕ
  pub from : ℕ
  pub to : ℕ
  pub next : ℕ
  pub world : Grid
  pub place : ℕ
  pub written : List Pos
  pub verdicts : List Verdict

-- the world and the place of a game
abbrev pub field_moment : FieldValue → Moment
field_moment field = record { world = world_of field.world; place = field.place }

-- the window of turns that begins on a field
abbrev pub window_of : FieldValue → ℕ → ℕ → Window
window_of field from to = record {
  minds = field.minds;
  seed = field.seed;
  base = world_of field.world;
  place = field.place;
  from = from;
  to = to;
}

-- the world and the place after the turns before the next one
abbrev pub moment_of : BookValue → Moment
moment_of book = record { world = world_of book.world; place = book.place }

-- a book stands on a window: it has the window's seed and turns; its world and place are those after the turns up to
-- the next one, executed in order; it has their verdicts, each once; and its world equals the base at every position
-- that wasn't written
pub record Stands (window : Window) (book : BookValue) : Type 0 where
  pub seed : book.seed ≡ window.seed
  pub from : book.from ≡ window.from
  pub to : book.to ≡ window.to
  pub now : moment_of book ≡ moment_before window book.next
  pub verdicts : AreVerdicts window (book.next - window.from) book.verdicts
  pub unwritten : (p : Pos) → ¬ Contains book.written p → (world_of book.world).cells p ≡ window.base.cells p

-- a book stands for a window: the window may be played, and the book stands on it
pub record StandsFor (window : Window) (book : BookValue) : Type 0 where
  pub playable : IsPlayable window
  pub begun : book.from ≤ book.next
  pub stands : Stands window book

-- the book with which a window of a field begins
abbrev pub begun : FieldValue → ℕ → ℕ → BookValue
begun field from to = record {
  seed = field.seed;
  from = from;
  to = to;
  next = from;
  world = field.world;
  place = field.place;
  written = [];
  verdicts = [];
}

-- a look is valid in a book
abbrev pub HoldsInBook : BookValue → LookValue → Type 0
HoldsInBook book look = LookHolds look (world_of book.world).cells book.place

-- a part that was read at a position and that differs in these cells
pub record IsChanged (reads : List Sighting) (cells : Cells) (at : Pos) (k : Part) : Type 0 where
  pub read : Sighting
  pub is_read : Contains reads read
  pub here : seen_place read ≡ at
  pub named : has_part (seen_parts read) k ≡ true
  pub differs : ¬ Alike k (seen_cell read) (cells at)

-- all that the look read is unchanged, and its random number is at a different place
pub record IsMoved (look : LookValue) (now : Moment) (guessed actual : ℕ) : Type 0 where
  pub unchanged :
      AllByRecursion (λ read. Agree (seen_parts read) (seen_cell read) (now.world.cells (seen_place read))) look.reads
  pub drew : look.drew ≡ true
  pub is_guess : guessed ≡ look.guess
  pub is_actual : actual ≡ now.place
  pub differs : actual ≢ guessed

-- why a look isn't valid
abbrev pub IsCause : LookValue → Moment → Cause → Type 0
IsCause look now (cause.Part at k) = IsChanged look.reads now.world.cells at k
IsCause look now (cause.Place guessed actual) = IsMoved look now guessed actual

-- what was read at a position that wasn't written is unchanged
abbrev pub AgreesIfUnwritten : List Pos → Cells → Sighting → Type 0
AgreesIfUnwritten written cells read =
    ¬ Contains written (seen_place read) → Agree (seen_parts read) (seen_cell read) (cells (seen_place read))

-- the same for the positions that a book has written, and for its world
abbrev pub AgreesUnwritten : BookValue → Sighting → Type 0
AgreesUnwritten book = AgreesIfUnwritten book.written (world_of book.world).cells

-- a write can be patched into the cell of its position, which is inside
abbrev pub CanPatchIn : World → Sighting → Type 0
CanPatchIn w write =
    IsInside w.width w.height (seen_place write)
    × CanPatch (w.cells (seen_place write)) (seen_cell write) (seen_parts write)

-- writes may be set in a world: each can be patched at its position; and the patched cells may be set one after
-- another, first those that don't raise the weight of their cell, then the others
pub record CanTake (w : World) (writes : List Sighting) : Type 0 where
  pub each : AllByRecursion (CanPatchIn w) writes
  pub in_order : CanSetWrites w 9 writes

-- the written positions of a book, and these, are those of another
abbrev pub Wrote : List Pos → List Pos → List Pos → Type 0
Wrote written more new = (p : Pos) → Contains new p ↔ (Contains written p ⊎ Contains more p)

-- a turn that does what a look says is settled with a verdict: the named parts of the look's writes are set and their
-- positions written, the place rises by one if it drew, and the verdict is added last
pub record IsEnded (look : LookValue) (verdict : Verdict) (book new : BookValue) : Type 0 where
  pub now : moment_of new ≡ record {
    world = with_cells (world_of book.world) (patched_cells (world_of book.world).cells look.writes);
    place = book.place + one_if look.drew;
  }
  pub written : Wrote book.written (seen_positions look.writes) new.written
  pub next : new.next ≡ book.next + 1
  pub verdicts : new.verdicts ≡ book.verdicts ++ verdict ∷ []

-- a valid look was used
pub record IsTaken (look : LookValue) (book new : BookValue) : Type 0 where
  pub holds : HoldsInBook book look
  pub ended : IsEnded look Taken book new

-- a turn was executed again, for a cause
pub record IsRedone (minds : Minds) (cause : Cause) (book new : BookValue) : Type 0 where
  pub now : moment_of new ≡ after_turn minds book.seed (moment_of book) book.next
  pub written : Wrote book.written (map (λ write. write.at) (writes minds (world_of book.world) book.next)) new.written
  pub next : new.next ≡ book.next + 1
  pub verdicts : new.verdicts ≡ book.verdicts ++ Redone cause ∷ []

-- what no step of a window changes
pub record IsSameWindow (book new : BookValue) : Type 0 where
  pub seed : new.seed ≡ book.seed
  pub from : new.from ≡ book.from
  pub to : new.to ≡ book.to

-- what settling a look returns: nothing, and it was used; or why it isn't valid, and the book is unchanged
abbrev pub Settles : LookValue → BookValue → BookValue → Option Cause → Type 0
Settles look book new None = IsTaken look book new
Settles look book new (Some cause) = (new ≡ book) × IsCause look (moment_of book) cause

-- a window of these turns may begin on a field: it is whole, and its stream is long enough for them
pub record CanBegin (field : FieldValue) (from to : ℕ) : Type 0 where
  pub whole : field.whole ≡ true
  pub forwards : from ≤ to
  pub ids : to ≤ field.world.ids
  pub lasting : field.place + (to - from) < 2 ^ 63

-- a field that is lent for the window of these turns
abbrev pub lent_for : FieldValue → ℕ → ℕ → FieldValue
lent_for field from to = record field { whole = false; lent = Some (from, to) }

-- a field is lent for a window, which is one of its own
pub record IsLentFor (field : FieldValue) (window : Window) : Type 0 where
  pub lent : field.lent ≡ Some (window.from, window.to)
  pub same : window_of field window.from window.to ≡ window

-- a book stands on a field: the field is lent for the window of the book's turns, and the book stands for that window
pub record StandsOn (field : FieldValue) (book : BookValue) : Type 0 where
  pub lent : field.lent ≡ Some (book.from, book.to)
  pub stands : StandsFor (window_of field book.from book.to) book

-- a field after the turns of a window: it is whole and not lent, with the world and the place after them
pub record IsPlayed (old : FieldValue) (from to : ℕ) (new : FieldValue) : Type 0 where
  pub now : field_moment new ≡ moment_before (window_of old from to) to
  pub minds : new.minds ≡ old.minds
  pub seed : new.seed ≡ old.seed
  pub ids : new.world.ids ≡ old.world.ids
  pub whole : new.whole ≡ true
  pub lent : new.lent ≡ None
