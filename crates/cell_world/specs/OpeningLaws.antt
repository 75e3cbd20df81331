-- The opening world, in the task's own words (the task's geography, chemistry and biology).
use Rattle.std.specs.Prelude.{◌≡◌, ℕ, ◌<◌, ◌≤◌, true, List, Some, IsSome, option_map}
use Rattle.hex_geometry.specs.declared.position.Pos.{Pos}
use Rattle.cell_world.specs.declared.ant.Ant.{Ant}
use Rattle.cell_world.specs.declared.kind.Kind.{Kind}
use Rattle.cell_world.specs.Cell.{rock}
use Rattle.cell_world.specs.Grid.{IsWorld, cell_in, world_of}
use Rattle.cell_world.specs.Marks.{no_marks}
use Rattle.cell_world.specs.Opening.{IsPlan, hill_count, hills_before, is_hill, kind_at, new_ant, opening, opening_cell}
use Rattle.cell_world.specs.World.{place_in}

-- the opening world of a plan keeps what every world keeps
abbrev pub PlansOpen : Type 0
PlansOpen = (width height : ℕ) (kinds : List Kind) → IsPlan width height kinds → IsWorld (opening width height kinds)

-- which cells and ants there are at the start
pub record HillsAreManned : Type 0 where
  -- each cell is what its kind says: rock is rock, food is that number of particles, and a red hill cell belongs to the
  -- red hill
  pub cell : (width height : ℕ) (kinds : List Kind) (p : Pos) → p.x < width →
      cell_in (opening width height kinds) p ≡ opening_cell (hills_before width kinds p) (kind_at width kinds p)
  -- to the right of the rows there is rock; below them a cell has the default kind for missing cells
  pub beyond : (width height : ℕ) (kinds : List Kind) (p : Pos) → width ≤ p.x
      → cell_in (opening width height kinds) p ≡ rock
  -- each hill cell has an ant of its colour, and no other cell has an ant
  pub manned : (width height : ℕ) (kinds : List Kind) (p : Pos) →
      (cell_in (opening width height kinds) p).hill
      ≡ option_map (λ (ant : Ant). ant.colour) (cell_in (opening width height kinds) p).ant
  -- each ant is new, and its id is the number of hill cells before its own
  pub new : (width height : ℕ) (kinds : List Kind) (p : Pos) (ant : Ant)
      → (cell_in (opening width height kinds) p).ant ≡ Some ant →
      ant ≡ new_ant ant.colour (hills_before width kinds p)
  -- the place of the ant with that id is that cell
  pub place : (width height : ℕ) (kinds : List Kind) → IsPlan width height kinds → (p : Pos) → p.x < width →
      is_hill (kind_at width kinds p) ≡ true
      → place_in (world_of (opening width height kinds)) (hills_before width kinds p) ≡ Some p
  -- every ant is alive
  pub alive : (width height : ℕ) (kinds : List Kind) → IsPlan width height kinds → (t : ℕ) → t < hill_count kinds →
      IsSome (place_in (world_of (opening width height kinds)) t)
  -- no cell is marked
  pub unmarked : (width height : ℕ) (kinds : List Kind) (p : Pos) →
      ((cell_in (opening width height kinds) p).red ≡ no_marks)
      × ((cell_in (opening width height kinds) p).black ≡ no_marks)
