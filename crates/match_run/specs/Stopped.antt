-- The state of a game whose play stopped, and how much of the rest of its text was pushed (this project's own).
use Rattle.std.specs.Prelude.{ℕ, ◌+◌, ◌<◌, ◌⊎◌, Bool, List}
use Rattle.ant_base.specs.Layout.{◌+++◌}
use Rattle.ant_base.specs.Sink.{SinkState, PushedAll, PushedFront}
use Rattle.cell_world.specs.Grid.{world_of}
use Rattle.cell_world.specs.Score.{score_of}
use Rattle.dump_print.specs.Texts.{score_text}
use Rattle.ant_base.specs.declared.push_fault.PushFault.{PushFault}
use Rattle.ant_base.specs.declared.push_fault.PushFault.TheVariants.{WriteFault, OutOfMemory}
use Rattle.match_run.specs.Counts.{counts_text}
use Rattle.match_run.specs.Game.{GameValue, GoesOnFor, IsRoundRefused, now_of}
use Rattle.match_run.specs.Later.{later_dumps}
use Rattle.match_run.specs.Run.{chosen_dump}
use Rattle.match_run.specs.Alone.{IsPlayedOn, GameAloneValue, standing}

-- the chosen dumps of this many later rounds of a game
abbrev pub dumps_behind : GameValue → (ℕ → Bool) → ℕ → List ℕ
dumps_behind game chosen rounds = later_dumps game.field.minds game.field.seed chosen (now_of game) game.done rounds

-- the sink failed at the dump of one of this many rounds: the game is after that round, and the dumps of the rounds
-- before it were pushed
pub record FailsAtDump (old new : GameValue) (rounds : ℕ) (chosen : ℕ → Bool) (sink new_sink : SinkState) : Type 0 where
  pub shown : ℕ
  pub left : shown < rounds
  pub whole : GoesOnFor old new (shown + 1)
  pub mid : SinkState
  pub before : PushedAll sink mid (dumps_behind old chosen shown)
  pub failed : PushedFront mid new_sink (chosen_dump chosen (world_of new.field.world) new.done)

-- the sink failed at the score or the counts: the game is after its last round, and all dumps were pushed
pub record FailsAtEnd (old new : GameValue) (rounds : ℕ) (chosen : ℕ → Bool) (stats : Bool)
    (sink new_sink : SinkState) : Type 0 where
  pub whole : GoesOnFor old new rounds
  pub mid : SinkState
  pub before : PushedAll sink mid (dumps_behind old chosen rounds)
  pub failed :
      PushedFront mid new_sink (score_text (score_of (world_of new.field.world)) +++ counts_text stats new.totals)

-- a window of one of this many rounds was refused: the game is at that window, and exactly the dumps of the rounds
-- before it were pushed
pub record RefusesWindow (old new : GameValue) (rounds : ℕ) (chosen : ℕ → Bool)
    (sink new_sink : SinkState) : Type 0 where
  pub shown : ℕ
  pub left : shown < rounds
  pub at : GameValue
  pub whole : GoesOnFor old at shown
  pub refused : IsRoundRefused at new
  pub before : PushedAll sink new_sink (dumps_behind old chosen shown)

-- why a game wasn't played for this many more rounds with its text: the sink failed at a dump or at the end, or memory
-- ran out for a window
abbrev pub StopsBy : GameValue → GameValue → ℕ → (ℕ → Bool) → Bool → SinkState → SinkState → PushFault → Type 0
StopsBy old new rounds chosen stats sink new_sink WriteFault =
    FailsAtDump old new rounds chosen sink new_sink ⊎ FailsAtEnd old new rounds chosen stats sink new_sink
StopsBy old new rounds chosen stats sink new_sink OutOfMemory = RefusesWindow old new rounds chosen sink new_sink

-- the sink failed at the dump of one of this many rounds of a game played alone: it is after that round, and the dumps
-- of the rounds before it were pushed
pub record LosesDump (old new : GameAloneValue) (rounds : ℕ) (chosen : ℕ → Bool)
    (sink new_sink : SinkState) : Type 0 where
  pub shown : ℕ
  pub left : shown < rounds
  pub played : IsPlayedOn old new (shown + 1)
  pub mid : SinkState
  pub before : PushedAll sink mid (later_dumps old.minds old.seed chosen (standing old) old.done shown)
  pub failed : PushedFront mid new_sink (chosen_dump chosen (world_of new.world) new.done)

-- the sink failed at its score: it is after its last round, and all dumps were pushed
pub record LosesScore (old new : GameAloneValue) (rounds : ℕ) (chosen : ℕ → Bool)
    (sink new_sink : SinkState) : Type 0 where
  pub played : IsPlayedOn old new rounds
  pub mid : SinkState
  pub before : PushedAll sink mid (later_dumps old.minds old.seed chosen (standing old) old.done rounds)
  pub failed : PushedFront mid new_sink (score_text (score_of (world_of new.world)))

-- why it wasn't played for this many more rounds with its text: the sink failed at a dump or at the score
abbrev pub LosesText : GameAloneValue → GameAloneValue → ℕ → (ℕ → Bool) → SinkState → SinkState → Type 0
LosesText old new rounds chosen sink new_sink =
    LosesDump old new rounds chosen sink new_sink ⊎ LosesScore old new rounds chosen sink new_sink
