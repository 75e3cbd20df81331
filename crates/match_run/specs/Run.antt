-- The text of a run (the task's game play; the layout is this project's own).
use Rattle.std.specs.Prelude.{ℕ, ◌+◌, Bool, List, [], if◌then◌else◌, Result, Ok, Err}
use Rattle.ant_base.specs.Layout.{numbered, ◌+++◌}
use Rattle.ant_base.specs.declared.sink.Failed.{Failed}
use Rattle.ant_turn.specs.Minds.{Minds}
use Rattle.ant_turn.specs.Rounds.{after_rounds}
use Rattle.cell_world.specs.Score.{score_of}
use Rattle.cell_world.specs.declared.score.Score.{Score}
use Rattle.cell_world.specs.World.{World}
use Rattle.dump_print.specs.Texts.{dump_text, score_text, seed_text}

-- the most rounds of a game (this project's own)
abbrev pub most_rounds : ℕ
most_rounds = 1000000

-- the world after a round of a game that starts in w (the task's game play)
unfoldable pub world_after : Minds → ℕ → World → ℕ → World
world_after minds seed w round = (after_rounds minds seed (record { world = w; place = 0 }) round).world

-- the dump after a round, if it is chosen
abbrev pub chosen_dump : (ℕ → Bool) → World → ℕ → List ℕ
chosen_dump chosen w round = if chosen round then dump_text w round else []

-- the dumps after the chosen rounds below n, from 0 on in order
unfoldable pub dumps_text : Minds → ℕ → (ℕ → Bool) → World → ℕ → List ℕ
dumps_text minds seed chosen w n = numbered (λ round. chosen_dump chosen (world_after minds seed w round) round) n

-- the text of a run without its counts: the line of the seed, the dump after each chosen round, from 0 to the number of
-- rounds in order, and the score
unfoldable pub run_text : Minds → ℕ → ℕ → (ℕ → Bool) → World → List ℕ
run_text minds seed rounds chosen w =
    seed_text seed
    +++ numbered (λ round. if chosen round then dump_text (world_after minds seed w round) round else []) (rounds + 1)
    +++ score_text (score_of (world_after minds seed w rounds))

-- how a run ended, whatever its score
abbrev pub ended : Result Score Failed → Result (Unit {0}) Failed
ended (Ok _) = Ok tt
ended (Err failed) = Err failed
