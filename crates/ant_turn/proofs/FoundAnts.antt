-- What a search for an ant by its id tells, and a stream of which nothing was drawn.
use Rattle.std.proofs.Common.{◌≡◌, ◌+◌, Option, Some, sym, ◌∙◌, ap, subst, add-zero}
use Rattle.std.specs.Prelude.{IfSome, option_map}
use Rattle.hex_geometry.specs.declared.position.Pos.{Pos}
use Rattle.cell_world.specs.declared.ant.PlacedAnt.{PlacedAnt}
use Rattle.cell_world.specs.World.{World}
use Rattle.ant_random.specs.Stream.{SeedAndPlace}

-- the place of the ant that was found
pub found-place : (place : Option Pos) (result : Option PlacedAnt) (it : PlacedAnt) → option_map (λ (s : PlacedAnt). s.place) result ≡ place → result ≡ Some it → place ≡ Some it.place
found-place place result it told is = sym told ∙ ap (option_map (λ (s : PlacedAnt). s.place)) is

-- and that it is there
pub found-holds : (w : World) (result : Option PlacedAnt) (it : PlacedAnt) → IfSome result (λ s. (w.cells s.place).ant ≡ Some s.ant) → result ≡ Some it → (w.cells it.place).ant ≡ Some it.ant
found-holds w result it told is = subst (λ o. IfSome o (λ s. (w.cells s.place).ant ≡ Some s.ant)) is told

-- a stream of which nothing was drawn
pub stream-undrawn : (s : SeedAndPlace) → s ≡ record s { place = s.place + 0 }
stream-undrawn s = ap (λ n. record s { place = n }) (sym (add-zero s.place))
