-- The text of the rest of a run (this project's own).
use Rattle.std.specs.Prelude.{◌≡◌, ℕ, ◌+◌, ◌-◌, ◌≤◌, Bool, List}
use Rattle.ant_base.specs.Layout.{numbered, ◌+++◌}
use Rattle.ant_turn.specs.Minds.{Minds}
use Rattle.ant_turn.specs.Rounds.{Moment, after_rounds, start_of}
use Rattle.cell_world.specs.Score.{score_of}
use Rattle.cell_world.specs.World.{World}
use Rattle.dump_print.specs.declared.totals.Totals.{Totals}
use Rattle.dump_print.specs.Texts.{score_text, seed_text}
use Rattle.match_run.specs.Counts.{both, counts_text, totals_of, whole_text}
use Rattle.match_run.specs.Run.{chosen_dump, dumps_text}

-- the chosen dumps of the n rounds after `round`, from the moment after `round`
unfoldable pub later_dumps : Minds → ℕ → (ℕ → Bool) → Moment → ℕ → ℕ → List ℕ
later_dumps minds seed chosen m round n =
    numbered (λ i. chosen_dump chosen (after_rounds minds seed m (i + 1)).world (round + i + 1)) n

-- the text of the rest of a run without its counts, if this many rounds are done and have led to this moment: the dumps
-- of the later rounds that are chosen, and the score at the end
unfoldable pub plain_later_text : Minds → ℕ → Moment → ℕ → ℕ → (ℕ → Bool) → List ℕ
plain_later_text minds seed m round rounds chosen =
    later_dumps minds seed chosen m round (rounds - round)
    +++ score_text (score_of (after_rounds minds seed m (rounds - round)).world)

-- the text of the rest of a run, if the rounds that are done have these counts: that text, and the counts if they are
-- requested
unfoldable pub later_text : Minds → ℕ → ℕ → Moment → ℕ → Totals → ℕ → (ℕ → Bool) → Bool → List ℕ
later_text minds seed size m round totals rounds chosen stats =
    plain_later_text minds seed m round rounds chosen
    +++ counts_text stats (both totals (totals_of minds seed size m (rounds - round)))

-- the text of a run is the line of the seed, the chosen dumps up to any round, and then the rest of its text
abbrev pub RunsGoOn : Type 0
RunsGoOn =
    (minds : Minds) (seed size : ℕ) (w : World) (round rounds : ℕ) (chosen : ℕ → Bool) (stats : Bool) → round ≤ rounds →
    whole_text minds seed rounds chosen size stats w ≡
    seed_text seed
    +++ dumps_text minds seed chosen w (round + 1)
    +++ later_text minds seed size (after_rounds minds seed (start_of w) round) round
    (totals_of minds seed size (start_of w) round) rounds chosen stats
