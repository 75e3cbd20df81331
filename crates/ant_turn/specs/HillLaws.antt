-- Turns and rounds keep the hills of a world, and so the number of hill cells (the task's geography).
use Rattle.std.specs.Prelude.{◌≡◌, ℕ, ◌+◌, ◌*◌, List, [], ◌∷◌, length}
use Rattle.std.specs.Option.{is_some}
use Rattle.hex_geometry.specs.declared.position.Pos.{Pos}
use Rattle.cell_world.specs.declared.cell.Cell.{Cell}
use Rattle.cell_world.specs.declared.kind.Kind.{Kind}
use Rattle.cell_world.specs.Cell.{one_if}
use Rattle.cell_world.specs.Grid.{Grid, world_of}
use Rattle.cell_world.specs.Opening.{IsPlan, hill_count, opening}
use Rattle.cell_world.specs.Valid.{Valid}
use Rattle.cell_world.specs.World.{World, total}
use Rattle.ant_turn.specs.Minds.{Minds, Fits, AreSound}
use Rattle.ant_turn.specs.Rounds.{Moment, after_rounds, after_turns, start_of}

-- 1 if the cell belongs to a hill of either colour, otherwise 0
abbrev pub hill_cell_in : Cell → ℕ
hill_cell_in cell = one_if (is_some cell.hill)

-- how many cells of a world belong to a hill
unfoldable pub hill_cells_of : World → ℕ
hill_cells_of w = total hill_cell_in w

-- how many cells of a list belong to a hill
abbrev pub hill_cells : List Cell → ℕ
hill_cells [] = 0
hill_cells (cell ∷ cells) = hill_cell_in cell + hill_cells cells

-- the world `now` has the hills of an earlier one: each cell belongs to the same hill, or to none as before, and the
-- number of hill cells is the same
pub record HasHillsOf (earlier now : World) : Type 0 where
  pub each : (p : Pos) → (now.cells p).hill ≡ (earlier.cells p).hill
  pub count : hill_cells_of now ≡ hill_cells_of earlier

-- turns keep the hills of a world that sound brains fit
abbrev pub TurnsKeepHills : Type 0
TurnsKeepHills =
    (minds : Minds) (seed : ℕ) (m : Moment) (from n : ℕ) → AreSound minds → Valid m.world → Fits m.world minds
    → HasHillsOf m.world (after_turns minds seed m from n).world

-- rounds keep them too
abbrev pub RoundsKeepHills : Type 0
RoundsKeepHills = (minds : Minds) (seed : ℕ) (m : Moment) (r : ℕ) → AreSound minds → Valid m.world → Fits m.world minds
    → HasHillsOf m.world (after_rounds minds seed m r).world

-- the moment after r rounds of a game of the world of these kinds
abbrev pub game_after : Minds → ℕ → ℕ → ℕ → List Kind → ℕ → Moment
game_after minds seed width height kinds r =
    after_rounds minds seed (start_of (world_of (opening width height kinds))) r

-- in every round a game's world has as many ids as hill cells, which are those of the kinds; and the list of its cells
-- has the same number of hill cells
pub record GamesKeepHills : Type 0 where
  pub ids : (minds : Minds) (seed width height : ℕ) (kinds : List Kind) (r : ℕ)
      → (game_after minds seed width height kinds r).world.ids ≡ hill_count kinds
  pub count : (minds : Minds) (seed width height : ℕ) (kinds : List Kind) (r : ℕ) → IsPlan width height kinds
      → AreSound minds
      → hill_cells_of (game_after minds seed width height kinds r).world ≡ hill_count kinds
  pub cells : (minds : Minds) (seed width height : ℕ) (kinds : List Kind) (r : ℕ) (g : Grid) → IsPlan width height kinds
      → AreSound minds
      → length g.cells ≡ g.width * g.height → world_of g ≡ (game_after minds seed width height kinds r).world
      → hill_cells g.cells ≡ g.ids
