-- What the lines of a save say (this project's own).
use Rattle.std.specs.Prelude.{◌≡◌, ℕ, suc, ◌*◌, ◌<◌, ◌≤◌, List, [], ◌∷◌, length}
use Rattle.std.specs.List.{AllByRecursion}
use Rattle.brain_read.specs.declared.instr.Instr.{Instr}
use Rattle.brain_read.specs.Forms.{IsInRange}
use Rattle.brain_read.specs.Grammar.{states_of}
use Rattle.brain_read.specs.Soundness.{most_states}
use Rattle.cell_world.specs.declared.ant.PlacedAnt.{PlacedAnt}
use Rattle.match_save.specs.declared.head.Head.{Head}
use Rattle.match_save.specs.declared.soil.Soil.{Soil}
use Rattle.cell_world.specs.Limits.{least_size, most_ants, most_size, most_weight}

-- what all lines say: the numbers, the instructions of both brains, and, in row order, the ground, the marks of both
-- colours and the food of each cell; and the living ants
pub record Draft : Type 0 where
  pub head : Head
  pub red : List Instr
  pub black : List Instr
  pub soils : List Soil
  pub red_marks : List ℕ
  pub black_marks : List ℕ
  pub foods : List ℕ
  pub ants : List PlacedAnt

-- the largest number of eleven digits
abbrev pub most_counted : ℕ
most_counted = 99999999999

-- the numbers of the first eight lines are within their limits
pub record IsHead (h : Head) : Type 0 where
  pub seed : h.seed ≤ 4294967295
  pub few : 4 ≤ h.surround
  pub many : h.surround ≤ 6
  pub corpse : h.corpse ≤ 9
  pub rest : h.rest ≤ 255
  pub some : 1 ≤ h.window
  pub window : h.window ≤ 16384
  pub round : h.round ≤ 1000000
  pub place : h.place ≤ most_counted
  pub taken : h.taken ≤ most_counted
  pub redone : h.redone ≤ most_counted
  pub wide : least_size ≤ h.width
  pub narrow : h.width ≤ most_size
  pub tall : least_size ≤ h.height
  pub low : h.height ≤ most_size

-- an instruction's marker and bound are in range, and its states have at most ten digits
pub record IsInstruction (instruction : Instr) : Type 0 where
  pub in_range : IsInRange instruction
  pub states : AllByRecursion (λ state. state ≤ 9999999999) (states_of instruction)

-- the instructions of a brain
pub record IsProgram (list : List Instr) : Type 0 where
  pub some : 1 ≤ length list
  pub few : length list ≤ most_states
  pub each : AllByRecursion IsInstruction list

-- an ant's numbers are within their limits
pub record IsAnt (width height : ℕ) (it : PlacedAnt) : Type 0 where
  pub id : it.ant.id < most_ants
  pub column : it.place.x < width
  pub row : it.place.y < height
  pub state : it.ant.state < most_states
  pub resting : it.ant.resting ≤ 255

-- the ids of these ants rise, from this one on
abbrev pub IdsRise : ℕ → List PlacedAnt → Type 0
IdsRise least [] = Unit {0}
IdsRise least (it ∷ ants) = (least ≤ it.ant.id) × IdsRise (suc it.ant.id) ants

-- what all lines say is within the limits of each line
pub record IsInForm (d : Draft) : Type 0 where
  pub head : IsHead d.head
  pub red : IsProgram d.red
  pub black : IsProgram d.black
  pub soils : length d.soils ≡ d.head.height * d.head.width
  pub red_marks : length d.red_marks ≡ d.head.height * d.head.width
  pub red_sets : AllByRecursion (λ set. set < 64) d.red_marks
  pub black_marks : length d.black_marks ≡ d.head.height * d.head.width
  pub black_sets : AllByRecursion (λ set. set < 64) d.black_marks
  pub foods : length d.foods ≡ d.head.height * d.head.width
  pub amounts : AllByRecursion (λ food. food ≤ most_weight) d.foods
  pub ants : AllByRecursion (IsAnt d.head.width d.head.height) d.ants
  pub rise : IdsRise 0 d.ants
