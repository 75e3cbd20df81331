-- The windows of a round, one after another.
use Rattle.std.proofs.Common.{◌≡◌, ℕ, suc, ◌+◌, ◌-◌, ◌*◌, ◌^◌, ◌<◌, ◌≤◌, min, true, refl, sym, ◌∙◌, ap, arith}
use Rattle.ant_turn.specs.Rounds.{Moment, after_turns}
use Rattle.ant_turn.proofs.KeptByRounds.{IsWithin, after_turns-place, after_turns-then}
use Rattle.dump_print.specs.declared.totals.Totals.{Totals}
use Rattle.round_book.specs.Book.{FieldValue, IsPlayed, field_moment, window_of}
use Rattle.round_book.specs.Counts.{Counted, counts_of}
use Rattle.round_book.specs.Window.{moment_before}
use Rattle.match_run.specs.Counts.{both, sum_windows, window_at, window_totals}
use Rattle.match_run.specs.Game.{counted_on}
use Rattle.match_run.specs.Inner.Windows.{WindowsPlayed}
use Rattle.match_run.proofs.CountLemmas.{both-both, both-none, sum_windows-turns, window_from}

-- no window is played
pub played-none : (field : FieldValue) (size from : ℕ) (totals : Totals) → 1 ≤ size → from ≤ field.world.ids → field.whole ≡ true → WindowsPlayed field size from totals field from totals
played-none field size from totals sized within whole = record {
  windows = 0;
  next_is = omega arith;
  had_turns = omega arith;
  now = ap (after_turns field.minds field.seed (field_moment field) from) (let none : 0 ≡ from - from = omega arith in none);
  totals_are = sym (both-none totals);
  minds = refl;
  seed = refl;
  ids = refl;
  whole = whole;
}

module _ {old : FieldValue} {size from : ℕ} {totals : Totals} {mid : FieldValue} {next : ℕ} {mid_totals : Totals} (played : WindowsPlayed old size from totals mid next mid_totals) where
  -- the stream went on by one number a turn at most
  pub played-place : IsWithin old.place (next - from) mid.place
  played-place =
      let within = after_turns-place old.minds old.seed (field_moment old) from (next - from) in
      rw (ap (λ (m : Moment). m.place) played.now) within

  -- the next turn is the first of a window
  pub played-next : next < old.world.ids → next ≡ from + played.windows * size
  played-next left = (let e = played.next_is in omega (arith, e, left))

  -- how many turns were played
  pub played-turns : from ≤ old.world.ids → mid_totals.turns ≡ totals.turns + (next - from)
  played-turns within =
      let sum = sum_windows-turns old.minds old.seed size (field_moment old) from played.windows within in
      let all = ap (λ (t : Totals). t.turns) played.totals_are in
      let here = played.next_is in
      omega (arith, sum, all, here)

  module _ (to : ℕ) (left : next < old.world.ids) (ends : to ≡ next + min size (old.world.ids - next)) where
    -- the next window is the one that the definition names
    pub played-window : window_of mid next to ≡ window_at old.minds old.seed size (field_moment old) from played.windows
    unfolding window_at
    played-window =
        let here = played-next left in
        let turns : next - from ≡ played.windows * size = omega (arith, here) in
        let last : to ≡ min (from + played.windows * size + size) old.world.ids = omega (arith, here, ends, left) in
        ap (λ minds. window_from minds mid.seed (field_moment mid) next to) played.minds
        ∙ ap (λ (seed : ℕ). window_from old.minds seed (field_moment mid) next to) played.seed
        ∙ ap (λ m. window_from old.minds old.seed m next to) (played.now ∙ ap (after_turns old.minds old.seed (field_moment old) from) turns)
        ∙ ap (λ t. window_from old.minds old.seed (after_turns old.minds old.seed (field_moment old) from (played.windows * size)) t to) here
        ∙ ap (λ t. window_from old.minds old.seed (after_turns old.minds old.seed (field_moment old) from (played.windows * size)) (from + played.windows * size) t) last

    -- where it leads
    played-now : (new : FieldValue) → from ≤ next → IsPlayed mid next to new → field_moment new ≡ after_turns old.minds old.seed (field_moment old) from (to - from)
    unfolding moment_before
    played-now new begun step =
        let here : next ≡ from + (next - from) = omega (arith, begun) in
        let all : (next - from) + (to - next) ≡ to - from = omega (arith, begun, ends) in
        step.now
        ∙ ap (λ minds. after_turns minds mid.seed (field_moment mid) next (to - next)) played.minds
        ∙ ap (λ (seed : ℕ). after_turns old.minds seed (field_moment mid) next (to - next)) played.seed
        ∙ ap (λ m. after_turns old.minds old.seed m next (to - next)) played.now
        ∙ ap (λ t. after_turns old.minds old.seed (after_turns old.minds old.seed (field_moment old) from (next - from)) t (to - next)) here
        ∙ after_turns-then old.minds old.seed (field_moment old) from (next - from) (to - next)
        ∙ ap (after_turns old.minds old.seed (field_moment old) from) all

    -- one window more is played
    pub played-more : (new : FieldValue) (counts : Counted) (new_totals : Totals) → IsPlayed mid next to new → counts ≡ counts_of (window_of mid next to)
        → new_totals ≡ both mid_totals (record { turns = to - next; taken = counts.taken; redone = counts.redone }) → WindowsPlayed old size from totals new to new_totals
    unfolding window_totals
    played-more new counts new_totals step counted more =
        let here = played-next left in
        let sums : Totals = sum_windows old.minds old.seed size (field_moment old) from played.windows in
        record {
          windows = suc played.windows;
          next_is = omega (arith, here, ends, left);
          had_turns = omega (arith, here, left);
          now = played-now new (omega (arith, here)) step;
          totals_are =
              more
              ∙ ap (λ (c : Counted). both mid_totals (record { turns = to - next; taken = c.taken; redone = c.redone })) counted
              ∙ ap (λ window. both mid_totals (window_totals window)) played-window
              ∙ ap (λ t. both t (window_totals (window_at old.minds old.seed size (field_moment old) from played.windows))) played.totals_are
              ∙ both-both totals sums (window_totals (window_at old.minds old.seed size (field_moment old) from played.windows));
          minds = step.minds ∙ played.minds;
          seed = step.seed ∙ played.seed;
          ids = step.ids ∙ played.ids;
          whole = step.whole;
        }

-- a crew's count of turns stays where none is played
pub counted-none : (played turns : ℕ) → played < 2 ^ 64 → played ≡ counted_on played (turns - turns)
counted-none played turns small = omega arith

-- a crew's count of turns continues with the turns of the totals
pub counted-more : (first mid new before turns later more : ℕ) → mid ≡ counted_on first (turns - before) → new ≡ counted_on mid more → before ≤ turns → later ≡ turns + more → new ≡ counted_on first (later - before)
counted-more first mid new before turns later more so_far step le sum = omega arith
