-- Lists with an entry for each cell, in which the entries of some cells are set to one value.
use Rattle.std.specs.Prelude.{◌≡◌, ℕ, ◌<◌, List, length, slice_index_or, ◌⊎◌, Contains}
use Rattle.hex_geometry.specs.RowOrder.{index_of}
use Rattle.hex_geometry.specs.Direction.{dir_of}
use Rattle.hex_geometry.specs.Neighbourhood.{adjacent_pos, neighbours_of}
use Rattle.hex_geometry.specs.Position.{IsInside}
use Rattle.hex_geometry.specs.declared.position.Pos.{Pos}

-- the entries of the cells for which S holds are v now, and the others are unchanged
pub record SetsWhere {X : Type 0} (width height : ℕ) (v : X) (S : Pos → Type 0) (old new : List X) : Type 0 where
  pub same_length : length new ≡ length old
  pub on : (p : Pos) (d : X) → IsInside width height p → S p → slice_index_or new (index_of width p) d ≡ v
  pub stay : (p : Pos) (d : X) → IsInside width height p → slice_index_or old (index_of width p) d ≡ v
      → slice_index_or new (index_of width p) d ≡ v
  pub off : (p : Pos) (d : X) → IsInside width height p → (S p → ⊥)
      → slice_index_or new (index_of width p) d ≡ slice_index_or old (index_of width p) d

-- p itself, or one of its neighbours
abbrev pub IsRound : Pos → Pos → Type 0
IsRound p q = (p ≡ q) ⊎ Contains (neighbours_of p) q

-- p itself, or its neighbour in a direction whose number is below n
abbrev pub IsRoundBelow : Pos → ℕ → Pos → Type 0
IsRoundBelow p n q = (p ≡ q) ⊎ ((k : ℕ) × (k < n) × (adjacent_pos p (dir_of k) ≡ q))

-- one of these positions, or a neighbour of one
abbrev pub IsRoundAny : List Pos → Pos → Type 0
IsRoundAny cells q = (p : Pos) × Contains cells p × IsRound p q
