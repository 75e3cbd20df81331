-- A game that is played turn after turn, with a stream of its own (the task's kinetics).
use Rattle.std.specs.Prelude.{◌≡◌, ◌+◌, ◌<◌, ◌≤◌, ◌^◌}
use Rattle.ant_random.specs.Stream.{SeedAndPlace}
use Rattle.ant_turn.specs.Minds.{Fits, Minds}
use Rattle.ant_turn.specs.Rounds.{Moment, after_round}
use Rattle.cell_world.specs.Grid.{Grid, world_of}
use Rattle.cell_world.specs.Limits.{most_ants}

-- the moment of a world and the stream of its game
abbrev pub moment_from : Grid → SeedAndPlace → Moment
moment_from grid stream = record { world = world_of grid; place = stream.place }

-- a stream has a random number left for each turn of one more round
abbrev pub LastsARound : SeedAndPlace → Type 0
LastsARound stream = stream.place + most_ants < 2 ^ 63

-- one more round was played, with at most one random number for each turn
pub record RoundTaken (minds : Minds) (old : Grid) (before : SeedAndPlace) (new : Grid)
    (after : SeedAndPlace) : Type 0 where
  pub moment : moment_from new after ≡ after_round minds before.seed (moment_from old before)
  pub seed : after.seed ≡ before.seed
  pub place : after.place ≤ before.place + most_ants
  pub fit : Fits (world_of new) minds
