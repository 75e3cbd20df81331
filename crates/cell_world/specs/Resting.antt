-- Resting ants, distinguished from the others (the task's kinetics; the distinction is this project's own).
use Rattle.std.specs.Prelude.{◌≡◌, ℕ, zero, suc, ◌+◌, ◌-◌, ◌<◌, ◌≤◌, Bool, cond, if◌then◌else◌, nat_lt, nat_eq, List, [], ◌∷◌, Some, option_map}
use Rattle.hex_geometry.specs.declared.position.Pos.{Pos}
use Rattle.cell_world.specs.declared.ant.Ant.{Ant}
use Rattle.cell_world.specs.declared.cell.Cell.{Cell}
use Rattle.cell_world.specs.World.{Cells, World, with_cells}

-- the ant with a new resting count, which its id and its old count determine
abbrev pub with_rest : (ℕ → ℕ → ℕ) → Ant → Ant
with_rest f ant = record ant { resting = f ant.id ant.resting }

-- the cell with such an ant, if it holds one
abbrev pub with_rest_in : (ℕ → ℕ → ℕ) → Cell → Cell
with_rest_in f cell = record cell { ant = option_map (with_rest f) cell.ant }

-- the cells
abbrev pub rests_in : (ℕ → ℕ → ℕ) → Cells → Cells
rests_in f cells p = with_rest_in f (cells p)

-- the world
abbrev pub with_rests : (ℕ → ℕ → ℕ) → World → World
with_rests f w = with_cells w (rests_in f w.cells)

-- one less to rest, unless it is 0 already, for the ids from `from` to below `to`
unfoldable pub one_less : ℕ → ℕ → ℕ → ℕ → ℕ
one_less from to t rest = if nat_lt t from then rest else if nat_lt t to then rest - 1 else rest

-- the world in which each resting ant of these ids has one turn less to rest
abbrev pub rested : ℕ → ℕ → World → World
rested from to w = with_rests (one_less from to) w

-- those of the n ids from `from` on for which the test holds, in rising order
abbrev pub ids_where : (ℕ → Bool) → ℕ → ℕ → List ℕ
ids_where test from zero = []
ids_where test from (suc n) = cond (test from) (from ∷ ids_where test (from + 1) n) (ids_where test (from + 1) n)

-- some of the n ids from `from` on are listed, in rising order. A living ant is listed exactly if it doesn't rest; a
-- dead one may or may not be listed
pub record ActsListed (w : World) (from n : ℕ) (listed : List ℕ) : Type 0 where
  pub acts : ℕ → Bool
  pub are : listed ≡ ids_where acts from n
  pub each : (p : Pos) (ant : Ant) → (w.cells p).ant ≡ Some ant → from ≤ ant.id → ant.id < from + n
      → acts ant.id ≡ nat_eq ant.resting 0
