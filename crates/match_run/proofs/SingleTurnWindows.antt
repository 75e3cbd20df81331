-- In windows of one turn every turn is taken.
use Rattle.std.proofs.Common.{◌≡◌, ℕ, zero, suc, ◌+◌, ◌-◌, ◌*◌, ◌^◌, ◌<◌, ◌≤◌, refl, ◌∙◌, ap, ap₂, arith}
use Rattle.cell_world.specs.Valid.{Valid}
use Rattle.ant_turn.specs.Keeps.{Keeps}
use Rattle.ant_turn.specs.Minds.{AreSound, Fits, Minds}
use Rattle.ant_turn.specs.Rounds.{Moment, after_rounds, after_turns}
use Rattle.ant_turn.proofs.KeptByRounds.{Keeps-after_rounds, Keeps-after_turns, after_rounds-ids, after_rounds-place, after_turns-ids, after_turns-place}
use Rattle.dump_print.specs.declared.totals.Totals.{Totals}
use Rattle.round_book.specs.Counts.{Counted}
use Rattle.round_book.specs.Window.{IsPlayable, Window}
use Rattle.round_book.proofs.SingleTurns.{single_turns_are_taken}
use Rattle.match_run.specs.Counts.{both, round_totals, sum_windows, totals_of, window_at, window_totals}
use Rattle.match_run.specs.CountLaws.{SingleTurnWindowsAreTaken}
use Rattle.match_run.proofs.CountLemmas.{totals-same, windows_of-is}

abbrev all_taken : ℕ → Totals
all_taken turns = record { turns = turns; taken = turns; redone = 0 }

-- the turns of a window of one turn
window_totals-lone : (window : Window) → IsPlayable window → window.to ≡ window.from + 1 → window_totals window ≡ all_taken 1
unfolding window_totals
window_totals-lone window playable lone =
    let one : window.to - window.from ≡ 1 = omega arith in
    ap₂ (λ turns (counted : Counted). record { turns = turns; taken = counted.taken; redone = counted.redone }) one (single_turns_are_taken window playable lone)

module _ (minds : Minds) (seed : ℕ) (m : Moment) (sound : AreSound minds) (valid : Valid m.world) (fits : Fits m.world minds) (lasting : m.place + m.world.ids < 2 ^ 63) where
  playable : (j : ℕ) → j < m.world.ids → IsPlayable (window_at minds seed 1 m 0 j)
  unfolding window_at
  playable j below =
      let kept : Keeps minds m.world (after_turns minds seed m 0 (j * 1)).world = Keeps-after_turns minds seed m 0 (j * 1) sound valid fits in
      let ids = after_turns-ids minds seed m 0 (j * 1) in
      let place = after_turns-place minds seed m 0 (j * 1) in
      let most = place.to in
      record {
        valid = kept.valid;
        sound = sound;
        fits = kept.fits;
        forwards = omega (arith, below);
        ids = omega (arith, ids);
        lasting = omega (arith, most, below, lasting);
      }

  ends : (j : ℕ) → j < m.world.ids → (window_at minds seed 1 m 0 j).to ≡ (window_at minds seed 1 m 0 j).from + 1
  unfolding window_at
  ends j below = omega (arith, below)

  -- the turns of the first windows
  sum_windows-lone : (n : ℕ) → n ≤ m.world.ids → sum_windows minds seed 1 m 0 n ≡ all_taken n
  sum_windows-lone zero within = refl
  sum_windows-lone (suc n) within =
      let below : n < m.world.ids = omega (arith, within) in
      ap₂ both (sum_windows-lone n (omega (arith, within))) (window_totals-lone (window_at minds seed 1 m 0 n) (playable n below) (ends n below))
      ∙ totals-same (both (all_taken n) (all_taken 1)) (all_taken (suc n)) (omega arith) (omega arith) refl

  -- the turns of a round
  round_totals-lone : round_totals minds seed 1 m ≡ all_taken m.world.ids
  unfolding round_totals
  round_totals-lone =
      ap (sum_windows minds seed 1 m 0) (windows_of-is 1 m.world.ids m.world.ids (omega arith) (omega arith) (omega arith))
      ∙ sum_windows-lone m.world.ids (omega arith)

pub single_turn_windows_are_taken : SingleTurnWindowsAreTaken
single_turn_windows_are_taken minds seed m zero sound valid fits lasting = totals-same (totals_of minds seed 1 m zero) (all_taken (m.world.ids * 0)) (omega arith) (omega arith) refl
single_turn_windows_are_taken minds seed m (suc r) sound valid fits lasting =
    let kept : Keeps minds m.world (after_rounds minds seed m r).world = Keeps-after_rounds minds seed m r sound valid fits in
    let ids = after_rounds-ids minds seed m r in
    let place = after_rounds-place minds seed m r in
    let most = place.to in
    ap₂ both (single_turn_windows_are_taken minds seed m r sound valid fits (omega (arith, lasting)))
    (round_totals-lone minds seed (after_rounds minds seed m r) sound kept.valid kept.fits (omega (arith, lasting, ids, most)) ∙ ap all_taken ids)
    ∙ totals-same (both (all_taken (m.world.ids * r)) (all_taken m.world.ids)) (all_taken (m.world.ids * suc r)) (omega arith) (omega arith) refl
