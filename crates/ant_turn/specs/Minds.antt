-- The brains of a game and the numbers of its rules.
use Rattle.std.specs.Prelude.{◌≡◌, ◌<◌, ◌≤◌, List, length, Some}
use Rattle.hex_geometry.specs.declared.position.Pos.{Pos}
use Rattle.cell_world.specs.declared.ant.Ant.{Ant}
use Rattle.cell_world.specs.declared.ant.Colour.{Colour}
use Rattle.cell_world.specs.declared.ant.Colour.TheVariants.{Red, Black}
use Rattle.cell_world.specs.World.{World}
use Rattle.brain_read.specs.declared.instr.Instr.{Instr}
use Rattle.brain_read.specs.Soundness.{IsBrain}
use Rattle.ant_turn.specs.declared.brains.Brains.{Brains}
use Rattle.ant_turn.specs.Sheet.{Sheet, contest, sheet_of}

-- the instructions of both colours by state, and the numbers of the rules
pub record Minds : Type 0 where
  pub red : List Instr
  pub black : List Instr
  pub sheet : Sheet

-- two brains with the contest's rules
abbrev pub contest_minds : List Instr → List Instr → Minds
contest_minds red black = record { red = red; black = black; sheet = contest }

-- two borrowed brains, with the rules of their sheet
abbrev pub minds_of : Brains → Minds
minds_of brains = record { red = brains.red.now; black = brains.black.now; sheet = sheet_of brains.sheet }

-- the brain of a colour
abbrev pub mind_of : Minds → Colour → List Instr
mind_of minds Red = minds.red
mind_of minds Black = minds.black

-- each ant's state is below the length of its colour's brain
pub record Fits (w : World) (minds : Minds) : Type 0 where
  pub below : (p : Pos) (ant : Ant) → (w.cells p).ant ≡ Some ant → ant.state < length (mind_of minds ant.colour)

-- both brains are sound, and a killed ant leaves no more food than it weighed
pub record AreSound (minds : Minds) : Type 0 where
  pub red : IsBrain minds.red
  pub black : IsBrain minds.black
  pub corpse : minds.sheet.corpse ≤ 9
