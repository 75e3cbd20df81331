-- Each law of generated worlds, used on small shapes: a weaker law would not do.
use Rattle.std.proofs.Common.{◌≡◌, ◌⊎◌, ℕ, List, [], ◌∷◌, refl, arith}
use Rattle.cell_world.specs.Grid.{Grid}
use Rattle.hex_geometry.specs.Position.{IsInner, Point, point_of}
use Rattle.hex_geometry.specs.declared.position.Pos.{Pos}
use Rattle.world_gen.proofs.WorkedPlacing.{first, no_room, second, shape, third, three_placed, twelve}
use Rattle.world_gen.specs.Elements.{IsCell}
use Rattle.world_gen.specs.Existence.{HasOutcome}
use Rattle.world_gen.specs.FreeSpots.{IsTouching}
use Rattle.world_gen.specs.Generated.{IsGenerated}
use Rattle.world_gen.specs.Placing.{HasNoRoom, IsPlacing}
use Rattle.world_gen.specs.PlacingLaws.{ElementsLieApart, PlacingIsOne}
use Rattle.world_gen.specs.declared.shape.Shape.{Shape}
use Rattle.world_gen.specs.declared.spot.Spot.{Spot}

-- the least width and the greatest height
abbrev narrow : Shape
narrow = record { width = 3; height = 512; rocks = 0; blobs = 1 }

pub has_outcome_used : HasOutcome → (seed : ℕ) → ((world : Grid) × IsGenerated seed narrow world) ⊎ ((number : ℕ) × HasNoRoom seed narrow number)
has_outcome_used law seed = law seed narrow (record { wide = omega arith; narrow = omega arith; tall = omega arith; low = omega arith })

-- three elements in 64 columns and rows: the red hill is off the rim, and no cell of it touches one of the blob
pub elements_lie_apart_used : ElementsLieApart →
    ((q : Point) → IsCell first q → (p : Pos) × (point_of p ≡ q) × IsInner 64 64 p)
    × ((q r : Point) → IsCell first q → IsCell third r → IsTouching q r → ⊥)
elements_lie_apart_used law =
    let separated = law 12345 shape (first ∷ second ∷ third ∷ []) three_placed in
    ((λ q cell. separated.off_rim first q (0, omega arith, refl) cell), separated.apart 0 2 first (omega arith) (omega arith))

-- that placing is the only one of its seed and shape; and where the red hill has no room there is none, and it is the
-- one without room
pub placing_is_one_used : PlacingIsOne →
    ((placed : List Spot) → IsPlacing 12345 shape placed → placed ≡ first ∷ second ∷ third ∷ [])
    × ((placed : List Spot) → IsPlacing 1 twelve placed → ⊥)
    × ((number : ℕ) → HasNoRoom 1 twelve number → number ≡ 0)
    × ((one other : Grid) → IsGenerated 12345 shape one → IsGenerated 12345 shape other → one ≡ other)
placing_is_one_used law = (
  (λ placed is. law.one 12345 shape placed (first ∷ second ∷ third ∷ []) is three_placed),
  (λ placed is. law.none 1 twelve placed 0 is no_room),
  (λ number is. law.number 1 twelve number 0 is no_room),
  law.world 12345 shape,
)
