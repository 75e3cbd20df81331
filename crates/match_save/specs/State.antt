-- The world that the lines of a save describe, and what holds of every save (this project's own).
use Rattle.std.specs.Prelude.{◌≡◌, ◌≢◌, ℕ, ◌+◌, ◌*◌, ◌<◌, ◌≤◌, Bool, true, false, List, [], ◌∷◌, length, Option, Some, None, slice_index_or, slice_set}
use Rattle.std.specs.List.{AllByRecursion}
use Rattle.brain_read.specs.declared.instr.Instr.{Instr}
use Rattle.brain_read.specs.Grammar.{StatesBelow}
use Rattle.cell_world.specs.declared.ant.Colour.{Colour}
use Rattle.cell_world.specs.declared.ant.Colour.TheVariants.{Red, Black}
use Rattle.cell_world.specs.declared.ant.PlacedAnt.{PlacedAnt}
use Rattle.cell_world.specs.declared.cell.Cell.{Cell}
use Rattle.cell_world.specs.Cell.{one_if, rock}
use Rattle.cell_world.specs.Grid.{Grid, IsWorld}
use Rattle.hex_geometry.specs.RowOrder.{index_of}
use Rattle.match_save.specs.Draft.{Draft}
use Rattle.match_save.specs.declared.soil.Soil.{Soil}
use Rattle.match_save.specs.declared.soil.Soil.TheVariants.{Rock, Clear, RedHill, BlackHill}

-- whether a ground is rock
abbrev pub is_rocky : Soil → Bool
is_rocky Rock = true
is_rocky Clear = false
is_rocky RedHill = false
is_rocky BlackHill = false

-- the colour of the hill to which it belongs, if any
abbrev pub hill_of : Soil → Option Colour
hill_of Rock = None
hill_of Clear = None
hill_of RedHill = Some Red
hill_of BlackHill = Some Black

-- whether it belongs to a hill
abbrev pub is_hill : Soil → Bool
is_hill Rock = false
is_hill Clear = false
is_hill RedHill = true
is_hill BlackHill = true

-- how many cells belong to a hill
abbrev pub hill_count : List Soil → ℕ
hill_count [] = 0
hill_count (soil ∷ soils) = one_if (is_hill soil) + hill_count soils

-- a cell of this ground, with these marks and this food, without an ant
abbrev pub ground_cell : Soil → ℕ → ℕ → ℕ → Cell
ground_cell soil red black food = record {
  rocky = is_rocky soil;
  hill = hill_of soil;
  food = food;
  red = record { set = red };
  black = record { set = black };
  ant = None;
}

-- the cells of these grounds, marks and foods, without ants
abbrev pub ground_cells : List Soil → List ℕ → List ℕ → List ℕ → List Cell
ground_cells [] reds blacks foods = []
ground_cells (soil ∷ soils) [] blacks foods = []
ground_cells (soil ∷ soils) (red ∷ reds) [] foods = []
ground_cells (soil ∷ soils) (red ∷ reds) (black ∷ blacks) [] = []
ground_cells (soil ∷ soils) (red ∷ reds) (black ∷ blacks) (food ∷ foods) =
    ground_cell soil red black food ∷ ground_cells soils reds blacks foods

-- the cells, with this ant at its place
abbrev pub with_ant : ℕ → PlacedAnt → List Cell → List Cell
with_ant width it cells =
    slice_set cells (index_of width it.place)
    (record (slice_index_or cells (index_of width it.place) rock) { ant = Some it.ant })

-- the cells, with these ants at their places
abbrev pub with_ants : ℕ → List PlacedAnt → List Cell → List Cell
with_ants width [] cells = cells
with_ants width (it ∷ ants) cells = with_ants width ants (with_ant width it cells)

-- the world that the lines describe, with as many ids as hill cells
unfoldable pub grid_of_draft : Draft → Grid
grid_of_draft d = record {
  width = d.head.width;
  height = d.head.height;
  ids = hill_count d.soils;
  cells = with_ants d.head.width d.ants (ground_cells d.soils d.red_marks d.black_marks d.foods);
}

-- how many turns the rounds had
abbrev pub turns_of : Draft → ℕ
turns_of d = hill_count d.soils * d.head.round

-- the brain of a colour
abbrev pub program_of : Draft → Colour → List Instr
program_of d Red = d.red
program_of d Black = d.black

-- no ant of the list is on this one's cell
abbrev pub StandsAlone : PlacedAnt → List PlacedAnt → Type 0
StandsAlone it ants = AllByRecursion (λ (other : PlacedAnt). other.place ≢ it.place) ants

-- no two ants of the list are on one cell
abbrev pub StandApart : List PlacedAnt → Type 0
StandApart [] = Unit {0}
StandApart (it ∷ ants) = StandsAlone it ants × StandApart ants

-- what the lines of a save describe is a state of a game
pub record IsState (d : Draft) : Type 0 where
  pub world : IsWorld (grid_of_draft d)
  pub clear :
      AllByRecursion
      (λ (it : PlacedAnt). (slice_index_or (ground_cells d.soils d.red_marks d.black_marks d.foods)
      (index_of d.head.width it.place) rock).rocky ≡ false) d.ants
  pub apart : StandApart d.ants
  pub red : StatesBelow (length d.red) d.red
  pub black : StatesBelow (length d.black) d.black
  pub fits : AllByRecursion (λ (it : PlacedAnt). it.ant.state < length (program_of d it.ant.colour)) d.ants
  pub place : d.head.place ≤ turns_of d
  pub turns : d.head.taken + d.head.redone ≡ turns_of d
