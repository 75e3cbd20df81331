-- A turn computed on a world: what it read, and what it would write (this project's own).
use Rattle.std.specs.Prelude.{ℕ, Bool, List}
use Rattle.cell_world.specs.World.{World}
use Rattle.ant_turn.specs.Minds.{Minds}
use Rattle.ant_turn.specs.Turn.{Outcome, turn}
use Rattle.spec_record.specs.Claims.{EachOnce, Sighting, seen_positions, with_cells_at}
use Rattle.spec_record.specs.Reads.{reads}
use Rattle.spec_record.specs.Writes.{writes}

-- what a contract sees of a look
pub record LookValue : Type 0 where
  pub turn : ℕ
  pub guess : ℕ
  pub drew : Bool
  pub reads : List Sighting
  pub writes : List Sighting
  pub killed : List ℕ

-- what holds of every look: it lists each position that it reads once, and each that it writes once
pub record IsListedOnce (seen left : List Sighting) : Type 0 where
  pub reads : EachOnce (seen_positions seen)
  pub writes : EachOnce (seen_positions left)

-- the look of an outcome: what is read, as it was before; what is written, as it is after
abbrev pub look_with : ℕ → ℕ → Outcome → List Sighting → List Sighting → LookValue
look_with t guess outcome seen left = record {
  turn = t;
  guess = guess;
  drew = outcome.drew;
  reads = seen;
  writes = left;
  killed = outcome.killed;
}

-- the look at the turn of id t on a base, with its random number guessed at this place: whether it draws and which ants
-- it kills, the positions that it reads with their parts and their cells in the base, and the positions that it writes
-- with their parts and their cells after the turn
unfoldable pub look_of : Minds → ℕ → World → ℕ → ℕ → LookValue
look_of minds seed base guess t =
    let outcome = turn minds seed base guess t in
    look_with t guess outcome (with_cells_at base.cells (reads minds base t))
    (with_cells_at outcome.cells (writes minds base t))
