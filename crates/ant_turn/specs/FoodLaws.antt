-- What turns and rounds do to the food, the weight and the number of the ants (the task's martial arts and kinetics).
use Rattle.std.specs.Prelude.{◌≡◌, ℕ, ◌+◌, ◌-◌, ◌*◌, ◌≤◌, List, length}
use Rattle.cell_world.specs.declared.ant.Colour.TheVariants.{Red, Black}
use Rattle.cell_world.specs.Score.{alive_of, food_of}
use Rattle.cell_world.specs.Valid.{Valid}
use Rattle.cell_world.specs.World.{World, weight, with_cells}
use Rattle.ant_turn.specs.Minds.{Minds, Fits, AreSound}
use Rattle.ant_turn.specs.Rounds.{Moment, after_rounds}
use Rattle.ant_turn.specs.Turn.{turn}

-- the world after the turn of id t
abbrev pub world_after_turn : Minds → ℕ → World → ℕ → ℕ → World
world_after_turn minds seed w place t = with_cells w (turn minds seed w place t).cells

-- the ants that the turn of id t kills, in order
abbrev pub killed_in : Minds → ℕ → World → ℕ → ℕ → List ℕ
killed_in minds seed w place t = (turn minds seed w place t).killed

-- how many ants are alive
abbrev pub living_of : World → ℕ
living_of w = alive_of w Red + alive_of w Black

-- a turn neither makes nor loses food, except that each killed ant leaves a corpse
abbrev pub TurnsKeepFood : Type 0
TurnsKeepFood = (minds : Minds) (seed : ℕ) (w : World) (place t : ℕ) → Valid w →
    food_of (world_after_turn minds seed w place t)
    ≡ food_of w + minds.sheet.corpse * length (killed_in minds seed w place t)

-- a turn changes the weight only by its kills: a corpse replaces an ant's nine
abbrev pub TurnsKeepWeight : Type 0
TurnsKeepWeight = (minds : Minds) (seed : ℕ) (w : World) (place t : ℕ) → minds.sheet.corpse ≤ 9 → Valid w →
    weight (world_after_turn minds seed w place t) + (9 - minds.sheet.corpse) * length (killed_in minds seed w place t)
    ≡ weight w

-- a turn lowers the number of living ants by the number of those that it killed
abbrev pub TurnsKeepAnts : Type 0
TurnsKeepAnts = (minds : Minds) (seed : ℕ) (w : World) (place t : ℕ) → Valid w →
    living_of (world_after_turn minds seed w place t) + length (killed_in minds seed w place t) ≡ living_of w

-- any number of rounds keeps the sum of the food of a world and a corpse for each living ant
abbrev pub RoundsKeepFood : Type 0
RoundsKeepFood = (minds : Minds) (seed : ℕ) (m : Moment) (r : ℕ) → AreSound minds → Valid m.world → Fits m.world minds →
    food_of (after_rounds minds seed m r).world + minds.sheet.corpse * living_of (after_rounds minds seed m r).world
    ≡ food_of m.world + minds.sheet.corpse * living_of m.world
