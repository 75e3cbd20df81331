-- What turns and rounds keep, and how many random numbers they use (the task's kinetics).
use Rattle.std.specs.Prelude.{ℕ, ◌+◌, ◌≤◌, List, length}
use Rattle.cell_world.specs.declared.kind.Kind.{Kind}
use Rattle.cell_world.specs.Grid.{world_of}
use Rattle.cell_world.specs.Opening.{opening}
use Rattle.cell_world.specs.Valid.{Valid}
use Rattle.cell_world.specs.World.{World, with_cells}
use Rattle.ant_turn.specs.Keeps.{Keeps}
use Rattle.ant_turn.specs.Minds.{Minds, Fits, AreSound}
use Rattle.ant_turn.specs.Rounds.{Moment, after_turns, after_rounds}
use Rattle.ant_turn.specs.Turn.{turn}

-- all brains fit the world at the start of a game
abbrev pub OpeningsFit : Type 0
OpeningsFit =
    (width height : ℕ) (kinds : List Kind) (minds : Minds) → 1 ≤ length minds.red → 1 ≤ length minds.black
    → Fits (world_of (opening width height kinds)) minds

-- a turn keeps a world that sound brains fit
abbrev pub TurnsKeep : Type 0
TurnsKeep = (minds : Minds) (seed : ℕ) (w : World) (place t : ℕ) → AreSound minds → Valid w → Fits w minds
    → Keeps minds w (with_cells w (turn minds seed w place t).cells)

-- rounds keep it too
abbrev pub RoundsKeep : Type 0
RoundsKeep = (minds : Minds) (seed : ℕ) (m : Moment) (r : ℕ) → AreSound minds → Valid m.world → Fits m.world minds
    → Keeps minds m.world (after_rounds minds seed m r).world

-- a number of turns uses at most that number of random numbers
abbrev pub TurnsDraw : Type 0
TurnsDraw = (minds : Minds) (seed : ℕ) (m : Moment) (from n : ℕ)
    → (m.place ≤ (after_turns minds seed m from n).place) × ((after_turns minds seed m from n).place ≤ m.place + n)
