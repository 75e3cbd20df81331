-- The counts of the turns of a game, window by window (this project's own). They depend on no worker, ticket or order
-- of events, but only on the worlds and places after the turns one after another, and on how many turns a window has.
use Rattle.std.specs.Prelude.{ℕ, zero, suc, ◌+◌, ◌-◌, ◌*◌, ◌/◌, min, Bool, true, false, List, []}
use Rattle.ant_base.specs.Layout.{◌+++◌}
use Rattle.ant_turn.specs.Minds.{Minds}
use Rattle.ant_turn.specs.Rounds.{Moment, after_rounds, after_turns, start_of}
use Rattle.cell_world.specs.World.{World}
use Rattle.dump_print.specs.declared.totals.Totals.{Totals}
use Rattle.dump_print.specs.Texts.{stats_text}
use Rattle.match_run.specs.Run.{run_text}
use Rattle.round_book.specs.Counts.{counts_of}
use Rattle.round_book.specs.Window.{Window}

-- no turn
abbrev pub no_turns : Totals
no_turns = record { turns = 0; taken = 0; redone = 0 }

-- some turns, and others
abbrev pub both : Totals → Totals → Totals
both some others = record {
  turns = some.turns + others.turns;
  taken = some.taken + others.taken;
  redone = some.redone + others.redone;
}

-- the turns of a window
unfoldable pub window_totals : Window → Totals
window_totals window = record {
  turns = window.to - window.from;
  taken = (counts_of window).taken;
  redone = (counts_of window).redone;
}

-- the turns of a round from `from` on are cut into windows of this many turns; the last may have fewer. m is the moment
-- before the first of them. This is window j, counted from 0: it begins at the moment after the windows before it
unfoldable pub window_at : Minds → ℕ → ℕ → Moment → ℕ → ℕ → Window
window_at minds seed size m from j = record {
  minds = minds;
  seed = seed;
  base = (after_turns minds seed m from (j * size)).world;
  place = (after_turns minds seed m from (j * size)).place;
  from = from + j * size;
  to = min (from + j * size + size) m.world.ids;
}

-- into how many windows this many turns are cut
abbrev pub windows_of : ℕ → ℕ → ℕ
windows_of size turns = (turns + size - 1) / size

-- the turns of the first n of these windows
abbrev pub sum_windows : Minds → ℕ → ℕ → Moment → ℕ → ℕ → Totals
sum_windows minds seed size m from zero = no_turns
sum_windows minds seed size m from (suc j) =
    both (sum_windows minds seed size m from j) (window_totals (window_at minds seed size m from j))

-- the turns of a round that begins at a moment: those of all its windows
unfoldable pub round_totals : Minds → ℕ → ℕ → Moment → Totals
round_totals minds seed size m = sum_windows minds seed size m 0 (windows_of size m.world.ids)

-- the turns of r rounds from a moment on
abbrev pub totals_of : Minds → ℕ → ℕ → Moment → ℕ → Totals
totals_of minds seed size m zero = no_turns
totals_of minds seed size m (suc r) =
    both (totals_of minds seed size m r) (round_totals minds seed size (after_rounds minds seed m r))

-- the line of the counts, if they are requested
abbrev pub counts_text : Bool → Totals → List ℕ
counts_text false totals = []
counts_text true totals = stats_text totals

-- the text of a run, and the line of its counts if they are requested
unfoldable pub whole_text : Minds → ℕ → ℕ → (ℕ → Bool) → ℕ → Bool → World → List ℕ
whole_text minds seed rounds chosen size stats w =
    run_text minds seed rounds chosen w +++ counts_text stats (totals_of minds seed size (start_of w) rounds)
