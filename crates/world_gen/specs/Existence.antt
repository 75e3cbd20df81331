-- A law beside the one that a seed and a shape have at most one outcome: they have at least one.
use Rattle.std.specs.Prelude.{ℕ, ◌⊎◌}
use Rattle.cell_world.specs.Grid.{Grid}
use Rattle.world_gen.specs.Generated.{IsGenerated, IsShape}
use Rattle.world_gen.specs.Placing.{HasNoRoom}
use Rattle.world_gen.specs.declared.shape.Shape.{Shape}

-- each seed and shape has a world, whose elements are all placed, or an element without room
abbrev pub HasOutcome : Type 0
HasOutcome =
    (seed : ℕ) (shape : Shape) → IsShape shape
    → ((world : Grid) × IsGenerated seed shape world) ⊎ ((number : ℕ) × HasNoRoom seed shape number)
