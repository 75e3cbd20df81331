-- The parts of what a state of a game requires of its lines.
use Rattle.std.specs.Prelude.{◌≡◌, ◌+◌, ◌<◌, ◌≤◌, true, length, sum}
use Rattle.std.specs.List.{AllByRecursion}
use Rattle.brain_read.specs.Grammar.{StatesBelow}
use Rattle.cell_world.specs.declared.ant.PlacedAnt.{PlacedAnt}
use Rattle.cell_world.specs.Limits.{most_ants, most_weight}
use Rattle.match_save.specs.Draft.{Draft}
use Rattle.match_save.specs.State.{hill_count, program_of, turns_of}
use Rattle.match_save.specs.Inner.Floor.{are_sound_cells, floor_of}
use Rattle.match_save.specs.Inner.AntPuts.{CanAllStand, weight_of_ants}

-- what holds of a state's world
pub record HasWorld (d : Draft) : Type 0 where
  pub few : hill_count d.soils ≤ most_ants
  pub sound : are_sound_cells d.head.width d.head.height 0 (floor_of d).cells ≡ true
  pub light : sum d.foods + weight_of_ants d.ants ≤ most_weight
  pub stand : CanAllStand (floor_of d) d.ants

-- what else holds of a state
pub record HasRest (d : Draft) : Type 0 where
  pub red : StatesBelow (length d.red) d.red
  pub black : StatesBelow (length d.black) d.black
  pub fits : AllByRecursion (λ (it : PlacedAnt). it.ant.state < length (program_of d it.ant.colour)) d.ants
  pub place : d.head.place ≤ turns_of d
  pub turns : d.head.taken + d.head.redone ≡ turns_of d
