-- Laws of games and of the texts of runs (the task's game play; the layout is this project's own).
use Rattle.std.specs.Prelude.{◌≡◌, ℕ, ◌+◌, ◌<◌, ◌≤◌, List, [], ◌∷◌, ◌++◌}
use Rattle.std.specs.List.{Contains}
use Rattle.ant_base.specs.Layout.{numbered, ◌+++◌}
use Rattle.ant_turn.specs.Minds.{Minds}
use Rattle.ant_turn.specs.Rounds.{after_rounds, start_of}
use Rattle.cell_world.specs.Score.{score_of}
use Rattle.cell_world.specs.World.{World}
use Rattle.dump_print.specs.Texts.{dump_text, score_text, seed_text}
use Rattle.match_run.specs.declared.dumps.Dumps.TheVariants.{Nothing, All}
use Rattle.match_run.specs.Dumps.{chooses, has_round}
use Rattle.match_run.specs.Run.{run_text, world_after}

-- the text of a run with all dumps is the line of the seed, the dump after each round from 0 to the number of rounds in
-- order, and the score
abbrev pub AllDumps : Type 0
AllDumps = (minds : Minds) (seed rounds : ℕ) (w : World) → run_text minds seed rounds (chooses All) w ≡
    seed_text seed +++ numbered (λ round. dump_text (world_after minds seed w round) round) (rounds + 1)
    +++ score_text (score_of (world_after minds seed w rounds))

-- without dumps it is the line of the seed and the score
abbrev pub NoDumps : Type 0
NoDumps = (minds : Minds) (seed rounds : ℕ) (w : World) → run_text minds seed rounds (chooses Nothing) w
    ≡ seed_text seed +++ score_text (score_of (world_after minds seed w rounds))

-- lists that have the same rounds, up to the number of rounds, give the same text, in whatever order and however often
abbrev pub SameRounds : Type 0
SameRounds = (minds : Minds) (seed rounds : ℕ) (w : World) (list other : List ℕ)
    → ((round : ℕ) → round ≤ rounds → Contains list round → Contains other round)
    → ((round : ℕ) → round ≤ rounds → Contains other round → Contains list round)
    → run_text minds seed rounds (has_round list) w ≡ run_text minds seed rounds (has_round other) w

-- a round that is in the list already adds nothing
abbrev pub RepeatAddsNothing : Type 0
RepeatAddsNothing = (minds : Minds) (seed rounds : ℕ) (w : World) (list : List ℕ) (round : ℕ) → Contains list round
    → run_text minds seed rounds (has_round (list ++ round ∷ [])) w ≡ run_text minds seed rounds (has_round list) w

-- a round above the number of rounds adds nothing
abbrev pub LaterAddsNothing : Type 0
LaterAddsNothing = (minds : Minds) (seed rounds : ℕ) (w : World) (list : List ℕ) (round : ℕ) → rounds < round
    → run_text minds seed rounds (has_round (list ++ round ∷ [])) w ≡ run_text minds seed rounds (has_round list) w

-- the score after r and then q rounds is that after q rounds from the moment after r: its world, and its place of the
-- random numbers
abbrev pub GamesGoOn : Type 0
GamesGoOn = (minds : Minds) (seed : ℕ) (w : World) (r q : ℕ)
    → score_of (world_after minds seed w (r + q))
    ≡ score_of (after_rounds minds seed (after_rounds minds seed (start_of w) r) q).world
