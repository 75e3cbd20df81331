-- A world after a change, in the task's own words (the task's geography and biology).
use Rattle.std.specs.Prelude.{◌≡◌, ◌≢◌, ◌↔◌, ℕ, ◌+◌, true, false, Some, None, IsSome}
use Rattle.hex_geometry.specs.declared.position.Pos.{Pos}
use Rattle.hex_geometry.specs.Position.{IsInside}
use Rattle.cell_world.specs.declared.ant.Ant.{Ant}
use Rattle.cell_world.specs.declared.cell.Cell.{Cell}
use Rattle.cell_world.specs.Cell.{holds_id, cell_weight}
use Rattle.cell_world.specs.Valid.{Valid, CanSet}
use Rattle.cell_world.specs.World.{World, put, place_in, weight}

-- the cell that was put at p is at p, and every other position has its old cell
pub record PutIsRead : Type 0 where
  pub here : (w : World) (p : Pos) (cell : Cell) → (put w p cell).cells p ≡ cell
  pub elsewhere : (w : World) (p : Pos) (cell : Cell) (q : Pos) → q ≢ p → (put w p cell).cells q ≡ w.cells q

-- the order of two changes at two positions doesn't matter, of two at one position the second counts, and putting what
-- is there changes nothing
pub record PutsSettle : Type 0 where
  pub swap : (w : World) (p : Pos) (here : Cell) (q : Pos) (there : Cell) → p ≢ q
      → put (put w p here) q there ≡ put (put w q there) p here
  pub twice : (w : World) (p : Pos) (first second : Cell) → put (put w p first) p second ≡ put w p second
  pub same : (w : World) (p : Pos) → put w p (w.cells p) ≡ w

-- a position is an ant's place exactly if its cell holds the ant, and an ant has no place exactly if no cell holds it
pub record PlaceIsCell : Type 0 where
  pub place : (w : World) (t : ℕ) (p : Pos) → Valid w → (place_in w t ≡ Some p) ↔ (holds_id t (w.cells p) ≡ true)
  pub nowhere : (w : World) (t : ℕ) → Valid w → (place_in w t ≡ None) ↔ ((p : Pos) → holds_id t (w.cells p) ≡ false)
  -- an ant has a place exactly if some cell holds it
  pub somewhere : (w : World) (t : ℕ) → Valid w → IsSome (place_in w t) ↔ ((p : Pos) × (holds_id t (w.cells p) ≡ true))
  -- no ant is on two cells
  pub one : (w : World) (t : ℕ) (p q : Pos) → Valid w → holds_id t (w.cells p) ≡ true → holds_id t (w.cells q) ≡ true
      → p ≡ q
  -- the cell of each ant is its place
  pub own : (w : World) (p : Pos) (ant : Ant) → Valid w → (w.cells p).ant ≡ Some ant → place_in w ant.id ≡ Some p

-- an allowed change keeps what every world keeps, moves the new cell's ant there, removes the old cell's ant, and
-- leaves every other ant where it is
pub record PutKeeps : Type 0 where
  pub valid : (w : World) (room : ℕ) (p : Pos) (cell : Cell) → Valid w → CanSet w room p cell → Valid (put w p cell)
  pub came : (w : World) (room : ℕ) (p : Pos) (cell : Cell) (t : ℕ) → CanSet w room p cell → holds_id t cell ≡ true
      → place_in (put w p cell) t ≡ Some p
  pub gone : (w : World) (p : Pos) (cell : Cell) (t : ℕ) → Valid w → holds_id t (w.cells p) ≡ true
      → holds_id t cell ≡ false → place_in (put w p cell) t ≡ None
  pub stayed : (w : World) (p : Pos) (cell : Cell) (t : ℕ) → holds_id t (w.cells p) ≡ holds_id t cell
      → place_in (put w p cell) t ≡ place_in w t

-- the weight of a world is the sum of its cells' weights: after a change, the new cell's weight replaces the old one's
abbrev pub PutWeighs : Type 0
PutWeighs =
    (w : World) (p : Pos) (cell : Cell) → IsInside w.width w.height p
    → weight (put w p cell) + cell_weight (w.cells p) ≡ weight w + cell_weight cell
