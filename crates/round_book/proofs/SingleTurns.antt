-- Windows of one turn.
use Rattle.std.proofs.Common.{◌≡◌, ℕ, ◌+◌, ◌-◌, true, sym, ◌∙◌, ap, subst, arith}
use Rattle.cell_world.specs.Cell.{one_if}
use Rattle.ant_turn.specs.Rounds.{Moment}
use Rattle.spec_record.specs.Holds.{Holds}
use Rattle.spec_record.proofs.WritesAlone.{Holds-itself}
use Rattle.round_book.specs.CountLaws.{SingleTurnsAreTaken}
use Rattle.round_book.specs.Counts.{Counted, counts_of, is_taken, taken_among}
use Rattle.round_book.specs.Window.{HoldsIn, Window, moment_before}
use Rattle.round_book.proofs.CountLemmas.{is_taken-test}
use Rattle.round_book.proofs.MachineLemmas.{moment_before-from}
use Rattle.round_book.proofs.SoloLemmas.{guess_for-from}

-- the look at the first turn of a window holds when its turn comes
first-holds : (window : Window) → HoldsIn window (moment_before window window.from) window.from
first-holds window =
    subst (λ (m : Moment). HoldsIn window m window.from) (sym (moment_before-from window))
    (subst (λ g. Holds window.minds window.base g window.base window.place window.from) (sym (guess_for-from window)) (Holds-itself window.minds window.base window.place window.from))

pub single_turns_are_taken : SingleTurnsAreTaken
unfolding counts_of
single_turns_are_taken window playable lone =
    let one : window.to - window.from ≡ 1 = omega arith in
    let here : window.from + 0 ≡ window.from = omega arith in
    let taken : is_taken window (window.from + 0) ≡ true = ap (is_taken window) here ∙ (is_taken-test window window.from).1 (first-holds window) in
    let made : ℕ → ℕ → Counted = λ a b. record { taken = a; redone = b } in
    ap (λ n. made (taken_among window n) (n - taken_among window n)) one ∙ ap (λ b. made (0 + one_if b) (1 - (0 + one_if b))) taken
