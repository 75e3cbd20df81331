-- Games played alone, turn after turn and without looks (the task's game play).
use Rattle.std.specs.Prelude.{◌≡◌, ℕ, ◌+◌, ◌*◌, ◌≤◌}
use Rattle.ant_turn.specs.Minds.{Fits, Minds}
use Rattle.ant_turn.specs.Rounds.{Moment, after_rounds}
use Rattle.cell_world.specs.Grid.{Grid, world_of}
use Rattle.cell_world.specs.Limits.{most_ants}
use Rattle.match_run.specs.Run.{most_rounds}

-- what a contract sees of such a game at the end of a round: its world, brains and seed, how many random numbers were
-- drawn, and how many rounds are done
pub record GameAloneValue : Type 0 where
  pub world : Grid
  pub minds : Minds
  pub seed : ℕ
  pub place : ℕ
  pub done : ℕ

-- its world and its place in the stream
abbrev pub standing : GameAloneValue → Moment
standing game = record { world = world_of game.world; place = game.place }

-- what holds of every such game: its ants fit its brains, few rounds are done, and each turn drew at most one random
-- number
pub record IsGameAlone (game : GameAloneValue) : Type 0 where
  pub fit : Fits (world_of game.world) game.minds
  pub few : game.done ≤ most_rounds
  pub place : game.place ≤ game.done * most_ants

-- it was played for this number of rounds: its moment is that after these rounds of the rules
pub record IsPlayedOn (old new : GameAloneValue) (rounds : ℕ) : Type 0 where
  pub now : standing new ≡ after_rounds old.minds old.seed (standing old) rounds
  pub done : new.done ≡ old.done + rounds
  pub minds : new.minds ≡ old.minds
  pub seed : new.seed ≡ old.seed
