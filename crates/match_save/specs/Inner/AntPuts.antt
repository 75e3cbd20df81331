-- Ants that are put into a world one after another.
use Rattle.std.specs.Prelude.{◌≡◌, ℕ, ◌+◌, ◌<◌, Bool, true, false, not, ◌&&◌, List, [], ◌∷◌, Option, None, Some}
use Rattle.cell_world.specs.declared.ant.Ant.{Ant}
use Rattle.cell_world.specs.declared.ant.PlacedAnt.{PlacedAnt}
use Rattle.cell_world.specs.declared.cell.Cell.{Cell}
use Rattle.cell_world.specs.Cell.{ant_weight}
use Rattle.cell_world.specs.Grid.{Grid, cell_in}
use Rattle.match_save.specs.State.{with_ant, with_ants}

-- whether there is no ant
abbrev pub is_nobody : Option Ant → Bool
is_nobody None = true
is_nobody (Some ant) = false

-- whether a cell is clear and holds no ant
abbrev pub is_free : Cell → Bool
is_free cell = not cell.rocky && is_nobody cell.ant

-- an ant can be at its place: the cell there is clear and holds no ant, and its id was assigned
pub record CanStand (g : Grid) (it : PlacedAnt) : Type 0 where
  pub clear : (cell_in g it.place).rocky ≡ false
  pub free : (cell_in g it.place).ant ≡ None
  pub made : it.ant.id < g.ids

-- the world with this ant at its place
abbrev pub standing : Grid → PlacedAnt → Grid
standing g it = record g { cells = with_ant g.width it g.cells }

-- the world with these ants at their places
abbrev pub all_standing : Grid → List PlacedAnt → Grid
all_standing g ants = record g { cells = with_ants g.width ants g.cells }

-- each ant can be at its place once those before it are
abbrev pub CanAllStand : Grid → List PlacedAnt → Type 0
CanAllStand g [] = Unit {0}
CanAllStand g (it ∷ ants) = CanStand g it × CanAllStand (standing g it) ants

-- the total weight of ants
abbrev pub weight_of_ants : List PlacedAnt → ℕ
weight_of_ants [] = 0
weight_of_ants (it ∷ ants) = ant_weight (Some it.ant) + weight_of_ants ants

-- what putting an ant did: it is at its place, or it can't be
abbrev pub PutsOne : Grid → Grid → PlacedAnt → Bool → Type 0
PutsOne old new it true = CanStand old it × (new ≡ standing old it)
PutsOne old new it false = CanStand old it → ⊥

-- what putting ants did: they are all at their places, or they can't be
abbrev pub PutsAll : Grid → Grid → List PlacedAnt → Bool → Type 0
PutsAll old new ants true = CanAllStand old ants × (new ≡ all_standing old ants)
PutsAll old new ants false = CanAllStand old ants → ⊥
