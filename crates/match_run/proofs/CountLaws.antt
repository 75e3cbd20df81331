-- What holds of the counts of all games.
use Rattle.std.proofs.Common.{◌≡◌, ℕ, ◌+◌, ◌-◌, ◌*◌, refl, sym, ◌∙◌, ap, append-nil, arith}
use Rattle.ant_turn.specs.Minds.{Minds}
use Rattle.ant_turn.specs.Rounds.{Moment, after_turns}
use Rattle.ant_turn.proofs.KeptByRounds.{after_rounds-then, after_turns-then}
use Rattle.match_run.specs.Counts.{both, sum_windows, whole_text, windows_of}
use Rattle.match_run.specs.CountLaws.{BrokenRoundsGoOn, CountsComeLast, RoundsGoOn, TotalsAddUp, WholeRounds}
use Rattle.match_run.specs.Game.{now_of}
use Rattle.match_run.specs.Run.{run_text}
use Rattle.match_run.proofs.CountLemmas.{both-both, sum_windows-then, totals_of-add_up, totals_of-then, totals_of-turns, windows_of-full, windows_of-is, windows_of-room}
use Rattle.match_run.proofs.GameLemmas.{whole-moment, whole-totals}

pub totals_add_up : TotalsAddUp
totals_add_up = record { turns = totals_of-turns; each = totals_of-add_up }

pub rounds_go_on : RoundsGoOn
rounds_go_on = record {
  moment = after_rounds-then;
  totals = λ minds seed size m r q. sym (totals_of-then minds seed size m r q);
}

pub counts_come_last : CountsComeLast
unfolding whole_text
counts_come_last = record {
  without = λ minds seed rounds chosen size w. append-nil (run_text minds seed rounds chosen w);
  with_them = λ minds seed rounds chosen size w. refl;
}

pub whole_rounds : WholeRounds
whole_rounds = record { moment = whole-moment; totals = whole-totals }

pub broken_rounds_go_on : BrokenRoundsGoOn
broken_rounds_go_on old mid new sized refused played =
    let minds : Minds = old.field.minds in
    let seed : ℕ = old.field.seed in
    let size : ℕ = old.window in
    let ids : ℕ = old.field.world.ids in
    let k : ℕ = refused.windows in
    let next = refused.next in
    let left = refused.is_left in
    let rest : ℕ = ids - (old.next + k * size) in
    let room = windows_of-room size rest sized in
    let full = windows_of-full size rest sized in
    let count : windows_of size (ids - old.next) ≡ k + windows_of size rest = windows_of-is size (ids - old.next) (k + windows_of size rest) sized (omega (arith, room, next, left)) (omega (arith, full, next, left)) in
    let turns : k * size + rest ≡ ids - old.next = omega (arith, next, left) in
    let there : Moment = after_turns minds seed (now_of old) old.next (k * size) in
    record {
      now =
          played.now
          ∙ ap (λ b. after_turns b mid.field.seed (now_of mid) mid.next (mid.field.world.ids - mid.next)) refused.same.minds
          ∙ ap (λ (s : ℕ). after_turns minds s (now_of mid) mid.next (mid.field.world.ids - mid.next)) refused.same.seed
          ∙ ap (λ m. after_turns minds seed m mid.next (mid.field.world.ids - mid.next)) refused.now
          ∙ ap (λ (n : ℕ). after_turns minds seed there mid.next (n - mid.next)) refused.same.ids
          ∙ ap (λ t. after_turns minds seed there t (ids - t)) next
          ∙ after_turns-then minds seed (now_of old) old.next (k * size) rest
          ∙ ap (after_turns minds seed (now_of old) old.next) turns;
      totals =
          played.totals
          ∙ ap (λ b. both mid.totals (sum_windows b mid.field.seed mid.window (now_of mid) mid.next (windows_of mid.window (mid.field.world.ids - mid.next)))) refused.same.minds
          ∙ ap (λ (s : ℕ). both mid.totals (sum_windows minds s mid.window (now_of mid) mid.next (windows_of mid.window (mid.field.world.ids - mid.next)))) refused.same.seed
          ∙ ap (λ (n : ℕ). both mid.totals (sum_windows minds seed n (now_of mid) mid.next (windows_of n (mid.field.world.ids - mid.next)))) refused.same.window
          ∙ ap (λ m. both mid.totals (sum_windows minds seed size m mid.next (windows_of size (mid.field.world.ids - mid.next)))) refused.now
          ∙ ap (λ (n : ℕ). both mid.totals (sum_windows minds seed size there mid.next (windows_of size (n - mid.next)))) refused.same.ids
          ∙ ap (λ t. both mid.totals (sum_windows minds seed size there t (windows_of size (ids - t)))) next
          ∙ ap (λ t. both t (sum_windows minds seed size there (old.next + k * size) (windows_of size rest))) refused.totals
          ∙ both-both old.totals (sum_windows minds seed size (now_of old) old.next k) (sum_windows minds seed size there (old.next + k * size) (windows_of size rest))
          ∙ ap (both old.totals) (sum_windows-then minds seed size (now_of old) old.next k (windows_of size rest) ∙ ap (sum_windows minds seed size (now_of old) old.next) (sym count));
      done = played.done ∙ ap (λ n. n + 1) refused.done;
      next = played.next;
      same = record {
        minds = played.same.minds ∙ refused.same.minds;
        seed = played.same.seed ∙ refused.same.seed;
        ids = played.same.ids ∙ refused.same.ids;
        window = played.same.window ∙ refused.same.window;
        first_place = played.same.first_place ∙ refused.same.first_place;
      };
    }
