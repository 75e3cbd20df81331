-- What is resumed of a save is what is resumed of it advanced, after the dumps up to there.
use Rattle.std.proofs.Common.{◌≡◌, ℕ, zero, suc, ◌+◌, ◌-◌, ◌≤◌, Bool, List, ◌++◌, sym, ap, ap₂, ◌∙◌, append_assoc, append-nil, arith}
use Rattle.ant_turn.specs.Minds.{Minds}
use Rattle.ant_turn.specs.Rounds.{Moment, after_rounds}
use Rattle.ant_turn.proofs.KeptByRounds.{after_rounds-then}
use Rattle.cell_world.specs.Score.{score_of}
use Rattle.dump_print.specs.declared.totals.Totals.{Totals}
use Rattle.dump_print.specs.Texts.{score_text}
use Rattle.match_run.specs.Counts.{both, counts_text, totals_of}
use Rattle.match_run.specs.Later.{later_dumps}
use Rattle.match_run.specs.Run.{chosen_dump}
use Rattle.match_run.proofs.LaterLaws.{later_text-parts}
use Rattle.match_run.proofs.PlayLemmas.{later_dumps-more, later_dumps-none}
use Rattle.match_save.specs.Advanced.{AdvancedSavesGoOn, advanced}
use Rattle.match_save.specs.Resumed.{later_moment, moment_of, resumed_text}
use Rattle.match_save.specs.Saved.{IsSaved, SavedValue}
use Rattle.match_save.proofs.AfterRounds.{IsOfGame-advanced, moment-advanced, moment-steps, rounds-sum, totals-steps}

-- the dumps of some later rounds, and of those after them
later_dumps-then : (minds : Minds) (seed : ℕ) (chosen : ℕ → Bool) (m : Moment) (round n k : ℕ) → later_dumps minds seed chosen m round (n + k)
    ≡ later_dumps minds seed chosen m round n ++ later_dumps minds seed chosen (after_rounds minds seed m n) (round + n) k
later_dumps-then minds seed chosen m round n zero =
    ap (later_dumps minds seed chosen m round) (let all : n + 0 ≡ n = omega arith in all)
    ∙ sym (append-nil (later_dumps minds seed chosen m round n))
    ∙ ap (λ (d : List ℕ). later_dumps minds seed chosen m round n ++ d) (sym (later_dumps-none minds seed chosen (after_rounds minds seed m n) (round + n)))
later_dumps-then minds seed chosen m round n (suc k) =
    let there : Moment = after_rounds minds seed m n in
    let front : List ℕ = later_dumps minds seed chosen m round n in
    ap (later_dumps minds seed chosen m round) (let all : n + suc k ≡ n + k + 1 = omega arith in all)
    ∙ later_dumps-more minds seed chosen m round (n + k)
    ∙ ap₂ (λ (d last : List ℕ). d ++ last) (later_dumps-then minds seed chosen m round n k)
    (ap₂ (λ (it : Moment) (number : ℕ). chosen_dump chosen it.world number)
    (ap (after_rounds minds seed m) (let all : n + k + 1 ≡ n + (k + 1) = omega arith in all) ∙ sym (after_rounds-then minds seed m n (k + 1)))
    (let all : round + (n + k) + 1 ≡ round + n + k + 1 = omega arith in all))
    ∙ append_assoc front (later_dumps minds seed chosen there (round + n) k) (chosen_dump chosen (after_rounds minds seed there (k + 1)).world (round + n + k + 1))
    ∙ ap (λ (d : List ℕ). front ++ d) (sym (later_dumps-more minds seed chosen there (round + n) k) ∙ ap (later_dumps minds seed chosen there (round + n)) (let all : k + 1 ≡ suc k = omega arith in all))

module _ (s : SavedValue) (is : IsSaved s) (n rounds : ℕ) (later : s.round ≤ n) (still_later : n ≤ rounds) (chosen : ℕ → Bool) (stats : Bool) where
  -- the dumps up to a round, and those after it
  dumps-steps : later_dumps s.minds s.seed chosen (moment_of s) s.round (rounds - s.round)
      ≡ later_dumps s.minds s.seed chosen (moment_of s) s.round (n - s.round) ++ later_dumps s.minds s.seed chosen (moment_of (advanced s n)) n (rounds - n)
  dumps-steps =
      ap (later_dumps s.minds s.seed chosen (moment_of s) s.round) (sym (rounds-sum s is n later rounds still_later))
      ∙ later_dumps-then s.minds s.seed chosen (moment_of s) s.round (n - s.round) (rounds - n)
      ∙ ap₂ (λ (m : Moment) (round : ℕ). later_dumps s.minds s.seed chosen (moment_of s) s.round (n - s.round) ++ later_dumps s.minds s.seed chosen m round (rounds - n))
      (sym (moment-advanced s is n later)) (let all : s.round + (n - s.round) ≡ n = omega (arith, later) in all)

  end : Moment → Totals → List ℕ
  end m totals = score_text (score_of m.world) ++ counts_text stats totals

  text : resumed_text s rounds chosen stats ≡ later_dumps s.minds s.seed chosen (moment_of s) s.round (n - s.round) ++ resumed_text (advanced s n) rounds chosen stats
  unfolding resumed_text advanced end
  text =
      let front : List ℕ = later_dumps s.minds s.seed chosen (moment_of s) s.round (n - s.round) in
      let behind : List ℕ = later_dumps s.minds s.seed chosen (moment_of (advanced s n)) n (rounds - n) in
      later_text-parts s.minds s.seed s.window (moment_of s) s.round s.totals rounds chosen stats
      ∙ ap₂ (λ (d e : List ℕ). d ++ e) dumps-steps (ap₂ end (sym (moment-steps s is n later rounds still_later)) (sym (totals-steps s is n later rounds still_later)))
      ∙ append_assoc front behind (end (later_moment (advanced s n) (rounds - n)) (both (advanced s n).totals (totals_of s.minds s.seed s.window (moment_of (advanced s n)) (rounds - n))))
      ∙ ap (λ (t : List ℕ). front ++ t) (sym (later_text-parts s.minds s.seed s.window (moment_of (advanced s n)) n (advanced s n).totals rounds chosen stats))

pub advanced_saves_go_on : AdvancedSavesGoOn
advanced_saves_go_on = record {
  text = λ s n rounds chosen stats is later still_later. text s is n rounds later still_later chosen stats;
  game = λ s w n is of later. IsOfGame-advanced s is n later w of;
}
