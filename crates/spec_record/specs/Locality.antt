-- What the turn of an ant depends on, and what it changes (this project's own).
use Rattle.std.specs.Prelude.{◌≡◌, ◌≢◌, ℕ, ◌≤◌, false, true, AllPairs, List, length, map, None}
use Rattle.std.specs.List.{AllByRecursion}
use Rattle.hex_geometry.specs.declared.position.Pos.{Pos}
use Rattle.cell_world.specs.Cell.{holds_id}
use Rattle.cell_world.specs.Parts.{Agree, Alike, has_part}
use Rattle.cell_world.specs.Valid.{Valid}
use Rattle.cell_world.specs.World.{Cells, World, place_in, with_cells}
use Rattle.cell_world.specs.declared.part.Part.{Part}
use Rattle.ant_turn.specs.Minds.{AreSound, Fits, Minds}
use Rattle.ant_turn.specs.Turn.{Outcome, turn}
use Rattle.spec_record.specs.Claims.{Claim, merged, seen_cell, seen_parts, seen_place}
use Rattle.spec_record.specs.Guess.{flips}
use Rattle.spec_record.specs.Holds.{Holds, LookHolds}
use Rattle.spec_record.specs.Look.{LookValue, look_of}
use Rattle.spec_record.specs.Patches.{CanSetWrites, after_heavier, after_lighter, parts_at, patched_cells}
use Rattle.spec_record.specs.Reads.{reads}
use Rattle.spec_record.specs.Writes.{writes}

-- merged claims have each position once, with all parts that are claimed there
abbrev pub LooksAreMerged : Type 0
LooksAreMerged =
    (claims : List Claim)
    → AllPairs ◌≢◌ (map (λ c. c.at) (merged claims)) × ((p : Pos) → parts_at (merged claims) p ≡ parts_at claims p)

-- the world `now` follows a base, as far as the turn of id t depends on it: it has the same sizes, rocks and hills, the
-- ant is dead in it if it was dead in the base, and it isn't on two cells
pub record GoesOn (base now : World) (t : ℕ) : Type 0 where
  pub width : now.width ≡ base.width
  pub height : now.height ≡ base.height
  pub rocks : (p : Pos) → (now.cells p).rocky ≡ (base.cells p).rocky
  pub hills : (p : Pos) → (now.cells p).hill ≡ (base.cells p).hill
  pub dead : place_in base t ≡ None → place_in now t ≡ None
  pub once : (p q : Pos) → holds_id t (now.cells p) ≡ true → holds_id t (now.cells q) ≡ true → p ≡ q

-- both are worlds that the brains fit, with the same sizes, number of ids, rocks and hills, and the ants that are dead
-- in the base are dead in `now`
pub record IsLater (minds : Minds) (base now : World) : Type 0 where
  pub valid_base : Valid base
  pub valid : Valid now
  pub fits_base : Fits base minds
  pub fits : Fits now minds
  pub width : now.width ≡ base.width
  pub height : now.height ≡ base.height
  pub ids : now.ids ≡ base.ids
  pub rocks : (p : Pos) → (now.cells p).rocky ≡ (base.cells p).rocky
  pub hills : (p : Pos) → (now.cells p).hill ≡ (base.cells p).hill
  pub dead : (t : ℕ) → place_in base t ≡ None → place_in now t ≡ None

-- the turn of the look does this in these cells, where this is its outcome
pub record IsLookedAt (look : LookValue) (cells : Cells) (outcome : Outcome) : Type 0 where
  -- it draws and kills as in the look
  pub drew : outcome.drew ≡ look.drew
  pub killed : outcome.killed ≡ look.killed
  -- each part that it writes is as in the look
  pub written :
      AllByRecursion (λ write. Agree (seen_parts write) (outcome.cells (seen_place write)) (seen_cell write))
      look.writes
  -- every part that it doesn't write is unchanged, and so are the ground and the hill of each cell
  pub others : (p : Pos) (k : Part)
      → AllByRecursion (λ write. seen_place write ≡ p → has_part (seen_parts write) k ≡ false) look.writes →
      Alike k (outcome.cells p) (cells p)
  pub rocks : (p : Pos) → (outcome.cells p).rocky ≡ (cells p).rocky
  pub hills : (p : Pos) → (outcome.cells p).hill ≡ (cells p).hill

-- a turn depends only on what a look at it in a base reads: if that is the same, and so is the random number if it
-- draws one, the turn does what the look says
abbrev pub TurnsAreLocal : Type 0
TurnsAreLocal =
    (minds : Minds) (seed : ℕ) (base : World) (guess : ℕ) (now : World) (place t : ℕ) → IsLater minds base now
    → Holds minds base guess now place t →
    IsLookedAt (look_of minds seed base guess t) now.cells (turn minds seed now place t)

-- the same, from the fewest premises
abbrev pub TurnsAreLocalAlone : Type 0
TurnsAreLocalAlone =
    (minds : Minds) (seed : ℕ) (base : World) (guess : ℕ) (now : World) (place t : ℕ) → GoesOn base now t
    → Holds minds base guess now place t →
    IsLookedAt (look_of minds seed base guess t) now.cells (turn minds seed now place t)

-- the outcome of a look in these cells: its writes are set, and it draws and kills as the look says
abbrev pub outcome_by : LookValue → Cells → Outcome
outcome_by look cells = record { cells = patched_cells cells look.writes; drew = look.drew; killed = look.killed }

-- the outcome of such a turn is that of setting the writes of the look
abbrev pub TurnsArePatches : Type 0
TurnsArePatches =
    (minds : Minds) (seed : ℕ) (base : World) (guess : ℕ) (now : World) (place t : ℕ) → GoesOn base now t
    → Holds minds base guess now place t →
    turn minds seed now place t ≡ outcome_by (look_of minds seed base guess t) now.cells

-- a valid look determines what its turn does
abbrev pub LooksTell : Type 0
LooksTell = (minds : Minds) (seed : ℕ) (base : World) (guess : ℕ) (now : World) (place t : ℕ) → GoesOn base now t →
    LookHolds (look_of minds seed base guess t) now.cells place →
    turn minds seed now place t ≡ outcome_by (look_of minds seed base guess t) now.cells

-- a turn changes only the parts that it writes, and no ground or hill
pub record WritesAlone (minds : Minds) (seed : ℕ) (w : World) (place t : ℕ) : Type 0 where
  pub parts : (p : Pos) (k : Part) → AllByRecursion (λ c. c.at ≡ p → has_part c.parts k ≡ false) (writes minds w t) →
      Alike k ((turn minds seed w place t).cells p) (w.cells p)
  pub rocks : (p : Pos) → ((turn minds seed w place t).cells p).rocky ≡ (w.cells p).rocky
  pub hills : (p : Pos) → ((turn minds seed w place t).cells p).hill ≡ (w.cells p).hill

abbrev pub TurnsWriteAlone : Type 0
TurnsWriteAlone = (minds : Minds) (seed : ℕ) (w : World) (place t : ℕ) → Valid w → WritesAlone minds seed w place t

-- a turn reads at most 19 positions and writes at most 7
abbrev pub TurnsAreSmall : Type 0
TurnsAreSmall =
    (minds : Minds) (w : World) (t : ℕ) → Valid w → (length (reads minds w t) ≤ 19) × (length (writes minds w t) ≤ 7)

-- a turn draws a random number exactly if its ant is alive, doesn't rest and is at a Flip
abbrev pub TurnsDrawAtFlips : Type 0
TurnsDrawAtFlips =
    (minds : Minds) (seed : ℕ) (w : World) (place t : ℕ) → (turn minds seed w place t).drew ≡ flips minds w t

-- the writes of a valid look may be set in `now`, first those that don't raise the weight of their cell and then the
-- others, and the result is that of the turn
abbrev pub LooksSettle : Type 0
LooksSettle = (minds : Minds) (seed : ℕ) (base : World) (guess : ℕ) (now : World) (place t room : ℕ) →
    AreSound minds → IsLater minds base now → Holds minds base guess now place t → 1 ≤ room →
    let written = (look_of minds seed base guess t).writes in
    CanSetWrites now room written
    × (after_heavier (after_lighter now written) written ≡ with_cells now (turn minds seed now place t).cells)
