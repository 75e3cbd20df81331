-- What holds in every world (the task's geography and biology; the limits are this project's own).
use Rattle.std.specs.Prelude.{◌≡◌, ◌≢◌, ℕ, ◌<◌, ◌≤◌, true, false, Some}
use Rattle.std.specs.Option.{IsSomeAnd}
use Rattle.hex_geometry.specs.declared.position.Pos.{Pos}
use Rattle.hex_geometry.specs.Position.{IsInside, IsInner}
use Rattle.cell_world.specs.declared.ant.Ant.{Ant}
use Rattle.cell_world.specs.declared.cell.Cell.{Cell}
use Rattle.cell_world.specs.Cell.{HasMarksOfSix, rock, holds_id}
use Rattle.cell_world.specs.Limits.{least_size, most_size, most_ants, most_weight}
use Rattle.cell_world.specs.World.{World, put, weight}

-- what holds in every world
pub record Valid (w : World) : Type 0 where
  -- sizes from 3 to 512
  pub wide : least_size ≤ w.width
  pub narrow : w.width ≤ most_size
  pub tall : least_size ≤ w.height
  pub low : w.height ≤ most_size
  -- at most 16,384 ids were ever assigned
  pub few : w.ids ≤ most_ants
  -- a cell that isn't rocky isn't on the rim
  pub rim : (p : Pos) → (w.cells p).rocky ≡ false → IsInner w.width w.height p
  -- a rocky cell has no food, marks, ant or hill
  pub bare : (p : Pos) → (w.cells p).rocky ≡ true → w.cells p ≡ rock
  -- the id of each ant was assigned
  pub known : (p : Pos) (ant : Ant) → (w.cells p).ant ≡ Some ant → ant.id < w.ids
  -- no ant is at two positions
  pub once : (t : ℕ) (p q : Pos) → holds_id t (w.cells p) ≡ true → holds_id t (w.cells q) ≡ true → p ≡ q
  -- each set of markers has only markers 0 to 5
  pub six : (p : Pos) → HasMarksOfSix (w.cells p)
  pub light : weight w ≤ most_weight

-- a cell may be set at p: it is clear as the old one was, and belongs to the same hill or to none as before; its
-- markers are from 0 to 5, its ant is known and on no other cell, and the world stays light enough
pub record CanSet (w : World) (room : ℕ) (p : Pos) (cell : Cell) : Type 0 where
  pub room_left : 1 ≤ room
  pub inside : IsInside w.width w.height p
  pub was_clear : (w.cells p).rocky ≡ false
  pub is_clear : cell.rocky ≡ false
  pub same_hill : cell.hill ≡ (w.cells p).hill
  pub six : HasMarksOfSix cell
  pub ant_known : (ant : Ant) → cell.ant ≡ Some ant → ant.id < w.ids
  pub ant_nowhere_else : (ant : Ant) → cell.ant ≡ Some ant → (q : Pos) → q ≢ p → holds_id ant.id (w.cells q) ≡ false
  pub light_enough : weight (put w p cell) ≤ most_weight

-- two ants with the same body: they have the same id, colour and load, whatever their state, rest and direction
pub record SameBody (one other : Ant) : Type 0 where
  pub same_id : one.id ≡ other.id
  pub same_colour : one.colour ≡ other.colour
  pub same_load : one.laden ≡ other.laden

-- the state, the rest and the direction of this ant may be set at p: the ant there has the same body
pub record CanThink (w : World) (room : ℕ) (p : Pos) (ant : Ant) : Type 0 where
  pub room_left : 1 ≤ room
  pub inside : IsInside w.width w.height p
  pub stands : IsSomeAnd (w.cells p).ant (SameBody ant)
