-- A game that is played round by round (this project's own).
use Rattle.std.specs.Prelude.{◌≡◌, ℕ, ◌≤◌, Bool, List, ◌++◌, length, Result, Ok, Err}
use Rattle.ant_base.specs.Sink.{SinkState, PushedAll, PushedFront}
use Rattle.cell_world.specs.Grid.{world_of}
use Rattle.ant_base.specs.declared.push_fault.PushFault.{PushFault}
use Rattle.ant_base.specs.declared.push_fault.PushFault.TheVariants.{WriteFault, OutOfMemory}
use Rattle.match_run.specs.Game.{GameValue, IsRoundPlayed, IsRoundRefused}
use Rattle.match_run.specs.Play.{StoppedBy}
use Rattle.match_run.specs.Run.{chosen_dump}
use Rattle.match_run.specs.Stopped.{FailsAtDump, RefusesWindow}

-- why a round wasn't shown: it was played, and the sink failed at its dump; or memory ran out for a window of it, and
-- nothing was pushed
abbrev pub RoundStopped : GameValue → GameValue → (ℕ → Bool) → ℕ → SinkState → SinkState → PushFault → Type 0
RoundStopped old new chosen round sink new_sink WriteFault =
    IsRoundPlayed old new × PushedFront sink new_sink (chosen_dump chosen (world_of new.field.world) round)
RoundStopped old new chosen round sink new_sink OutOfMemory = IsRoundRefused old new × (new_sink ≡ sink)

-- a round was played, and its dump was pushed if it is chosen
abbrev pub RoundShown : {A : Type 0} → GameValue → GameValue → (ℕ → Bool) → ℕ → SinkState → SinkState
    → Result A PushFault → Type 0
RoundShown old new chosen round sink new_sink (Ok _) =
    IsRoundPlayed old new × PushedAll sink new_sink (chosen_dump chosen (world_of new.field.world) round)
RoundShown old new chosen round sink new_sink (Err fault) = RoundStopped old new chosen round sink new_sink fault

-- what playing rounds pushed: at Ok their whole text; otherwise the play stopped within it and any non-empty text after
-- it
abbrev pub RoundsPushed : {A : Type 0} → SinkState → SinkState → List ℕ → Result A PushFault → Type 0
RoundsPushed sink new_sink text (Ok _) = PushedAll sink new_sink text
RoundsPushed sink new_sink text (Err fault) =
    (rest : List ℕ) → 1 ≤ length rest → StoppedBy sink new_sink (text ++ rest) fault

-- why rounds weren't played and shown: the sink failed at the dump of one of them, or memory ran out for a window
abbrev pub RoundsStop : GameValue → GameValue → ℕ → (ℕ → Bool) → SinkState → SinkState → PushFault → Type 0
RoundsStop old new rounds chosen sink new_sink WriteFault = FailsAtDump old new rounds chosen sink new_sink
RoundsStop old new rounds chosen sink new_sink OutOfMemory = RefusesWindow old new rounds chosen sink new_sink
