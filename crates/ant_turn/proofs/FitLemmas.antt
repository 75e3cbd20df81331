-- Brains that fit the world at the start of a game.
use Rattle.std.proofs.Common.{◌≡◌, ℕ, ◌<◌, ◌≤◌, List, length, ap, arith}
use Rattle.cell_world.specs.declared.ant.Ant.{Ant}
use Rattle.cell_world.specs.declared.ant.Colour.{Colour}
use Rattle.cell_world.specs.declared.ant.Colour.TheVariants.{Red, Black}
use Rattle.cell_world.specs.declared.kind.Kind.{Kind}
use Rattle.cell_world.specs.Grid.{world_of}
use Rattle.cell_world.specs.Opening.{opening}
use Rattle.cell_world.proofs.OpeningLaws.{opening-new}
use Rattle.ant_turn.specs.Minds.{Minds, Fits, mind_of}

-- two brains of at least one state have a state 0
some_state : (minds : Minds) (colour : Colour) → 1 ≤ length minds.red → 1 ≤ length minds.black → 0 < length (mind_of minds colour)
some_state minds Red red black = omega arith
some_state minds Black red black = omega arith

-- all brains fit the world at the start of a game
pub Fits-opening : (width height : ℕ) (kinds : List Kind) (minds : Minds) → 1 ≤ length minds.red → 1 ≤ length minds.black → Fits (world_of (opening width height kinds)) minds
Fits-opening width height kinds minds red black = record {
  below = λ p ant is.
      let new : ant.state ≡ 0 = ap (λ (a : Ant). a.state) (opening-new width height kinds p ant is) in
      let some : 0 < length (mind_of minds ant.colour) = some_state minds ant.colour red black in
      omega arith;
}
