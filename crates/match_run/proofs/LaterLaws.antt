-- What holds of the rest of a run.
use Rattle.std.proofs.Common.{◌≡◌, ℕ, zero, suc, ◌+◌, ◌-◌, ◌≤◌, Bool, false, List, ◌++◌, length, refl, sym, ap, ap₂, ◌∙◌, append_assoc, append-nil, length-append, arith}
use Rattle.ant_base.specs.Layout.{numbered}
use Rattle.ant_base.proofs.Numbered.{numbered-more, numbered-none, numbered-same}
use Rattle.ant_turn.specs.Minds.{Minds}
use Rattle.ant_turn.specs.Rounds.{Moment, after_rounds, start_of}
use Rattle.ant_turn.proofs.KeptByRounds.{after_rounds-then}
use Rattle.cell_world.specs.Score.{score_of}
use Rattle.cell_world.specs.declared.score.Score.{Score}
use Rattle.cell_world.specs.World.{World}
use Rattle.dump_print.specs.declared.totals.Totals.{Totals}
use Rattle.dump_print.specs.Texts.{score_text, seed_text}
use Rattle.match_run.specs.Counts.{both, counts_text, no_turns, totals_of, whole_text}
use Rattle.match_run.specs.Later.{RunsGoOn, later_dumps, plain_later_text, later_text}
use Rattle.match_run.specs.Run.{chosen_dump, dumps_text, run_text, world_after}
use Rattle.match_run.proofs.CountLemmas.{totals_of-then}

-- the first texts, and those after them
numbered-split : (f : ℕ → List ℕ) (a b : ℕ) → numbered f (a + b) ≡ numbered f a ++ numbered (λ i. f (a + i)) b
numbered-split f a zero =
    ap (numbered f) (let s : a + 0 ≡ a = omega arith in s) ∙ sym (append-nil (numbered f a)) ∙ ap (λ l. numbered f a ++ l) (sym (numbered-none (λ i. f (a + i))))
numbered-split f a (suc b) =
    ap (numbered f) (let s : a + suc b ≡ a + b + 1 = omega arith in s)
    ∙ numbered-more f (a + b)
    ∙ ap (λ l. l ++ f (a + b)) (numbered-split f a b)
    ∙ append_assoc (numbered f a) (numbered (λ i. f (a + i)) b) (f (a + b))
    ∙ ap (λ l. numbered f a ++ l) (sym (numbered-more (λ i. f (a + i)) b) ∙ ap (numbered (λ i. f (a + i))) (let s : b + 1 ≡ suc b = omega arith in s))

module _ (minds : Minds) (seed : ℕ) (chosen : ℕ → Bool) (w : World) where
  -- the dumps of the first rounds, and those of the later ones
  dumps-split : (round more : ℕ) → dumps_text minds seed chosen w (round + more + 1) ≡ dumps_text minds seed chosen w (round + 1) ++ later_dumps minds seed chosen (after_rounds minds seed (start_of w) round) round more
  unfolding dumps_text later_dumps world_after
  dumps-split round more =
      let f : ℕ → List ℕ = λ r. chosen_dump chosen (world_after minds seed w r) r in
      ap (numbered f) (let s : round + more + 1 ≡ round + 1 + more = omega arith in s)
      ∙ numbered-split f (round + 1) more
      ∙ ap (λ l. numbered f (round + 1) ++ l) (numbered-same (λ i. f (round + 1 + i)) (λ i. chosen_dump chosen (after_rounds minds seed (after_rounds minds seed (start_of w) round) (i + 1)).world (round + i + 1)) more
      (λ i below.
      let number : round + 1 + i ≡ round + i + 1 = omega arith in
      ap f number
      ∙ ap (λ (m : Moment). chosen_dump chosen m.world (round + i + 1)) (ap (after_rounds minds seed (start_of w)) (let s : round + i + 1 ≡ round + (i + 1) = omega arith in s) ∙ sym (after_rounds-then minds seed (start_of w) round (i + 1)))))

-- the text of a run without its counts: what it is up to a round, and then the rest
pub run_text-later : (minds : Minds) (seed : ℕ) (w : World) (round rounds : ℕ) (chosen : ℕ → Bool) → round ≤ rounds → run_text minds seed rounds chosen w
    ≡ seed_text seed ++ (dumps_text minds seed chosen w (round + 1) ++ plain_later_text minds seed (after_rounds minds seed (start_of w) round) round rounds chosen)
unfolding run_text dumps_text plain_later_text world_after
run_text-later minds seed w round rounds chosen within =
    let more : ℕ = rounds - round in
    let whole : rounds ≡ round + more = omega (arith, within) in
    let there : Moment = after_rounds minds seed (start_of w) round in
    let dumps : dumps_text minds seed chosen w (rounds + 1) ≡ dumps_text minds seed chosen w (round + 1) ++ later_dumps minds seed chosen there round more =
    ap (λ n. dumps_text minds seed chosen w (n + 1)) whole ∙ dumps-split minds seed chosen w round more in
    let ends : after_rounds minds seed (start_of w) rounds ≡ after_rounds minds seed there more = ap (after_rounds minds seed (start_of w)) whole ∙ sym (after_rounds-then minds seed (start_of w) round more) in
    let score : score_text (score_of (after_rounds minds seed (start_of w) rounds).world) ≡ score_text (score_of (after_rounds minds seed there more).world) = ap (λ (m : Moment). score_text (score_of m.world)) ends in
    ap (λ (d : List ℕ). seed_text seed ++ (d ++ score_text (score_of (after_rounds minds seed (start_of w) rounds).world))) dumps
    ∙ ap (λ (s : List ℕ). seed_text seed ++ ((dumps_text minds seed chosen w (round + 1) ++ later_dumps minds seed chosen there round more) ++ s)) score
    ∙ ap (λ (t : List ℕ). seed_text seed ++ t) (append_assoc (dumps_text minds seed chosen w (round + 1)) (later_dumps minds seed chosen there round more) (score_text (score_of (after_rounds minds seed there more).world)))

-- the first dump is that of the start
dumps_text-first : (minds : Minds) (seed : ℕ) (chosen : ℕ → Bool) (w : World) → dumps_text minds seed chosen w 1 ≡ chosen_dump chosen w 0
unfolding dumps_text numbered world_after
dumps_text-first minds seed chosen w = refl

-- if it is just played, the dump of the start comes after the line of the seed, if it is chosen, and then the rest
pub run_text-start : (minds : Minds) (seed : ℕ) (w : World) (rounds : ℕ) (chosen : ℕ → Bool) → run_text minds seed rounds chosen w
    ≡ seed_text seed ++ (chosen_dump chosen w 0 ++ plain_later_text minds seed (start_of w) 0 rounds chosen)
run_text-start minds seed w rounds chosen =
    run_text-later minds seed w 0 rounds chosen (omega arith)
    ∙ ap (λ (d : List ℕ). seed_text seed ++ (d ++ plain_later_text minds seed (start_of w) 0 rounds chosen)) (dumps_text-first minds seed chosen w)

pub runs_go_on : RunsGoOn
unfolding whole_text later_text
runs_go_on minds seed size w round rounds chosen stats within =
    let more : ℕ = rounds - round in
    let whole : rounds ≡ round + more = omega (arith, within) in
    let there : Moment = after_rounds minds seed (start_of w) round in
    let counts : totals_of minds seed size (start_of w) rounds ≡ both (totals_of minds seed size (start_of w) round) (totals_of minds seed size there more) =
    ap (totals_of minds seed size (start_of w)) whole ∙ totals_of-then minds seed size (start_of w) round more in
    ap₂ (λ (t : List ℕ) (c : Totals). t ++ counts_text stats c) (run_text-later minds seed w round rounds chosen within) counts
    ∙ regroup (seed_text seed) (dumps_text minds seed chosen w (round + 1)) (plain_later_text minds seed there round rounds chosen) (counts_text stats (both (totals_of minds seed size (start_of w) round) (totals_of minds seed size there more)))
  where
    regroup : (a b c d : List ℕ) → (a ++ (b ++ c)) ++ d ≡ a ++ (b ++ (c ++ d))
    regroup a b c d = append_assoc a (b ++ c) d ∙ ap (λ l. a ++ l) (append_assoc b c d)

-- a text that ends in one that has something has something
pub some_then : (a b : List ℕ) → 1 ≤ length b → 1 ≤ length (a ++ b)
some_then a b some = omega (arith, length-append a b, some)

-- the end of a run has something: the line of its score
pub end-some : (score : Score) (stats : Bool) (totals : Totals) → 1 ≤ length (score_text score ++ counts_text stats totals)
unfolding score_text
end-some score stats totals = omega arith

-- the parts of the rest of a run
pub later_text-parts : (minds : Minds) (seed size : ℕ) (m : Moment) (round : ℕ) (totals : Totals) (rounds : ℕ) (chosen : ℕ → Bool) (stats : Bool) → later_text minds seed size m round totals rounds chosen stats
    ≡ later_dumps minds seed chosen m round (rounds - round)
    ++ (score_text (score_of (after_rounds minds seed m (rounds - round)).world) ++ counts_text stats (both totals (totals_of minds seed size m (rounds - round))))
unfolding later_text plain_later_text
later_text-parts minds seed size m round totals rounds chosen stats =
    append_assoc (later_dumps minds seed chosen m round (rounds - round)) (score_text (score_of (after_rounds minds seed m (rounds - round)).world)) (counts_text stats (both totals (totals_of minds seed size m (rounds - round))))

-- if no counts are requested, it is that without them
pub later_text-plain : (minds : Minds) (seed size : ℕ) (m : Moment) (round : ℕ) (totals : Totals) (rounds : ℕ) (chosen : ℕ → Bool) → later_text minds seed size m round totals rounds chosen false ≡ plain_later_text minds seed m round rounds chosen
unfolding later_text
later_text-plain minds seed size m round totals rounds chosen = append-nil (plain_later_text minds seed m round rounds chosen)

-- the parts of the rest of a run without its counts
pub plain_later_text-parts : (minds : Minds) (seed : ℕ) (m : Moment) (round rounds : ℕ) (chosen : ℕ → Bool) → plain_later_text minds seed m round rounds chosen
    ≡ later_dumps minds seed chosen m round (rounds - round) ++ score_text (score_of (after_rounds minds seed m (rounds - round)).world)
unfolding plain_later_text
plain_later_text-parts minds seed m round rounds chosen = refl

-- the rest of a run has something
pub later_text-some : (minds : Minds) (seed size : ℕ) (m : Moment) (round : ℕ) (totals : Totals) (rounds : ℕ) (chosen : ℕ → Bool) (stats : Bool) → 1 ≤ length (later_text minds seed size m round totals rounds chosen stats)
later_text-some minds seed size m round totals rounds chosen stats =
    rw (later_text-parts minds seed size m round totals rounds chosen stats)
    (some_then (later_dumps minds seed chosen m round (rounds - round)) (score_text (score_of (after_rounds minds seed m (rounds - round)).world) ++ counts_text stats (both totals (totals_of minds seed size m (rounds - round))))
    (end-some (score_of (after_rounds minds seed m (rounds - round)).world) stats (both totals (totals_of minds seed size m (rounds - round)))))

-- a run is the line of its seed, the dump of the start, if it is chosen, and the rest
pub whole_text-later : (minds : Minds) (seed size : ℕ) (w : World) (rounds : ℕ) (chosen : ℕ → Bool) (stats : Bool) → whole_text minds seed rounds chosen size stats w
    ≡ seed_text seed ++ (chosen_dump chosen w 0 ++ later_text minds seed size (start_of w) 0 no_turns rounds chosen stats)
whole_text-later minds seed size w rounds chosen stats =
    runs_go_on minds seed size w 0 rounds chosen stats (omega arith)
    ∙ ap (λ (d : List ℕ). seed_text seed ++ (d ++ later_text minds seed size (start_of w) 0 no_turns rounds chosen stats)) (dumps_text-first minds seed chosen w)

-- a run has something
pub whole_text-some : (minds : Minds) (seed size : ℕ) (w : World) (rounds : ℕ) (chosen : ℕ → Bool) (stats : Bool) → 1 ≤ length (whole_text minds seed rounds chosen size stats w)
whole_text-some minds seed size w rounds chosen stats =
    rw (whole_text-later minds seed size w rounds chosen stats)
    (some_then (seed_text seed) (chosen_dump chosen w 0 ++ later_text minds seed size (start_of w) 0 no_turns rounds chosen stats)
    (some_then (chosen_dump chosen w 0) (later_text minds seed size (start_of w) 0 no_turns rounds chosen stats)
    (later_text-some minds seed size (start_of w) 0 no_turns rounds chosen stats)))

-- the score after all rounds from the start
pub score-later : (minds : Minds) (seed : ℕ) (w : World) (rounds : ℕ) → score_of (after_rounds minds seed (start_of w) (rounds - 0)).world ≡ score_of (world_after minds seed w rounds)
unfolding world_after
score-later minds seed w rounds = ap (λ n. score_of (after_rounds minds seed (start_of w) n).world) (let s : rounds - 0 ≡ rounds = omega arith in s)
