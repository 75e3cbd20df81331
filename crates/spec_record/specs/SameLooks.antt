-- A look depends only on the cells that its turn reads and on one instruction (this project's own).
use Rattle.std.specs.Prelude.{◌≡◌, ℕ, List, None, Some, map}
use Rattle.std.specs.List.{AllByRecursion}
use Rattle.hex_geometry.specs.declared.position.Pos.{Pos}
use Rattle.cell_world.specs.declared.ant.Ant.{Ant}
use Rattle.cell_world.specs.Valid.{Valid}
use Rattle.cell_world.specs.World.{Cells, World, place_in}
use Rattle.ant_turn.specs.Minds.{Minds, mind_of}
use Rattle.ant_turn.specs.Turn.{instruction_at}
use Rattle.spec_record.specs.Claims.{Claim}
use Rattle.spec_record.specs.Look.{look_of}
use Rattle.spec_record.specs.Reads.{reads}

-- two worlds have the same whole cell at the position of each claim
abbrev pub SameAt : Cells → Cells → List Claim → Type 0
SameAt v w claims = AllByRecursion (λ p. v p ≡ w p) (map (λ c. c.at) claims)

-- for a look at turn t, one pair of brains on v is the same as the other pair on w: the rules are the same; an ant dead
-- in v is dead in w; the cells that the turn reads in v are the same in w; and a living ant has the same instruction
pub record SameForLook (minds others : Minds) (v w : World) (t : ℕ) : Type 0 where
  pub valid : Valid w
  pub sheet : others.sheet ≡ minds.sheet
  pub dead : place_in v t ≡ None → place_in w t ≡ None
  pub cells : SameAt v.cells w.cells (reads minds v t)
  pub instruction : (p : Pos) (ant : Ant) → place_in v t ≡ Some p → (v.cells p).ant ≡ Some ant
      → instruction_at (mind_of others ant.colour) ant.state ≡ instruction_at (mind_of minds ant.colour) ant.state

-- then the looks are the same: what they read and write, which ants they kill, and whether they draw. The rest of the
-- worlds, their sizes and the other instructions don't matter
abbrev pub LooksAgree : Type 0
LooksAgree =
    (minds others : Minds) (seed : ℕ) (v w : World) (guess t : ℕ) → SameForLook minds others v w t
    → look_of others seed w guess t ≡ look_of minds seed v guess t
