-- Jobs of workers that stay ready, and what the workers find (this project's own).
use Rattle.std.specs.Prelude.{◌≡◌, ℕ, zero, suc, ◌+◌, ◌-◌, ◌<◌, ◌≤◌, ◌^◌, List, [], ◌∷◌, ◌++◌, length, slice_index_or}
use Rattle.std.specs.List.{AllByRecursion}
use Rattle.cell_world.specs.Grid.{Grid, world_of}
use Rattle.ant_turn.specs.Minds.{Fits, Minds}
use Rattle.spec_record.specs.Look.{LookValue, look_of}

-- what a contract sees of a job: the game's brains, seed and world, the turns, and a guess for each of them
pub record JobValue : Type 0 where
  pub minds : Minds
  pub seed : ℕ
  pub base : Grid
  pub from : ℕ
  pub to : ℕ
  pub guesses : List ℕ

-- what a contract sees of an answer: the brains, the seed and the world of its job, and the looks
pub record FoundValue : Type 0 where
  pub minds : Minds
  pub seed : ℕ
  pub base : Grid
  pub looks : List LookValue

-- what holds of every job: its brains fit its world, its turns are ids of it, and each has a guess at which a number
-- can be drawn
pub record IsJob (job : JobValue) : Type 0 where
  pub fits : Fits (world_of job.base) job.minds
  pub forwards : job.from ≤ job.to
  pub ids : job.to ≤ job.base.ids
  pub count : length job.guesses ≡ job.to - job.from
  pub small : AllByRecursion (λ guess. guess + 1 < 2 ^ 63) job.guesses

-- a look is that of these brains, this seed and this world at its own guess and turn
pub record IsLookOf (minds : Minds) (seed : ℕ) (base : Grid) (look : LookValue) : Type 0 where
  pub below : look.turn < base.ids
  pub is : look ≡ look_of minds seed (world_of base) look.guess look.turn

-- what holds of every answer: its brains fit its world, and each look is that of these brains and this seed on it
pub record IsFound (minds : Minds) (seed : ℕ) (base : Grid) (looks : List LookValue) : Type 0 where
  pub fits : Fits (world_of base) minds
  pub each : AllByRecursion (IsLookOf minds seed base) looks

-- the looks of the first n turns of a job, in order
abbrev pub looks_of : JobValue → ℕ → List LookValue
looks_of job zero = []
looks_of job (suc n) =
    looks_of job n
    ++ look_of job.minds job.seed (world_of job.base) (slice_index_or job.guesses n 0) (job.from + n) ∷ []
