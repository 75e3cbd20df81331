-- The text of a trace, in the parts in which it is pushed.
use Rattle.std.proofs.Common.{◌≡◌, ℕ, ◌+◌, ◌-◌, ◌<◌, ◌≤◌, Bool, true, false, cond, [], ◌++◌, nat_lt, codes, decimal, sym, ◌∙◌, ap, ap₂, append_assoc, lt-ltb, le-ltb, arith}
use Rattle.std.proofs.Math.Path.{fun_ext}
use Rattle.std.proofs.lemmas.Bool.{cond-true, cond-false}
use Rattle.ant_base.specs.Layout.{numbered}
use Rattle.ant_base.proofs.Numbered.{numbered-none}
use Rattle.ant_turn.specs.Minds.{Minds}
use Rattle.ant_turn.specs.Rounds.{Moment, after_rounds, start_of}
use Rattle.ant_turn.proofs.KeptByRounds.{after_rounds-then}
use Rattle.cell_world.specs.World.{World}
use Rattle.dump_print.specs.Texts.{seed_text, seed_words}
use Rattle.match_run.specs.Run.{world_after}
use Rattle.match_run.specs.Alone.{IsPlayedOn, GameAloneValue, standing}
use Rattle.game_reports.specs.Inner.WayWords.{broken_end, broken_line, worlds_from}
use Rattle.game_reports.specs.Trace.{trace_text, unmade_text, way_text}
use Rattle.game_reports.proofs.WayLines.{way-shift}

-- the words of the seed, what follows them, and the last LF
pub trace_text-parts : (minds : Minds) (seed : ℕ) (w : World) (rounds id from : ℕ) → trace_text minds seed w rounds id from ≡ seed_words seed ++ (broken_end minds seed w rounds id from ++ codes "\n")
unfolding trace_text broken_end seed_text unmade_text
trace_text-parts minds seed w rounds id from = go (nat_lt id w.ids)
  where
    worlds : ℕ → World
    worlds i = world_after minds seed w (from + i)

    go : (b : Bool) → seed_text seed ++ cond b (way_text worlds id from (rounds + 1 - from)) (unmade_text id)
        ≡ seed_words seed ++ (cond b (numbered (broken_line worlds id from) (rounds + 1 - from)) (codes "\nno ant of id " ++ decimal id) ++ codes "\n")
    go true =
        append_assoc (seed_words seed) (codes "\n") (way_text worlds id from (rounds + 1 - from))
        ∙ ap (λ t. seed_words seed ++ t) (way-shift worlds id from (rounds + 1 - from))
    go false = simp append_assoc

-- if no ant ever had the id
pub broken_end-unmade : (minds : Minds) (seed : ℕ) (w : World) (rounds id from : ℕ) → w.ids ≤ id → broken_end minds seed w rounds id from ≡ codes "\nno ant of id " ++ decimal id
unfolding broken_end
broken_end-unmade minds seed w rounds id from unmade = cond-false _ _ _ (le-ltb id w.ids unmade)

-- if one had, but no round is reported
pub broken_end-none : (minds : Minds) (seed : ℕ) (w : World) (rounds id from : ℕ) → id < w.ids → rounds < from → broken_end minds seed w rounds id from ≡ []
unfolding broken_end
broken_end-none minds seed w rounds id from made later =
    cond-true _ _ _ (lt-ltb id w.ids made)
    ∙ ap (numbered (broken_line (λ i. world_after minds seed w (from + i)) id from)) (let s : rounds + 1 - from ≡ 0 = omega (arith, later) in s)
    ∙ numbered-none (broken_line (λ i. world_after minds seed w (from + i)) id from)

-- the worlds of a game that began on w and was played so far
worlds_from-begun : (minds : Minds) (seed : ℕ) (w : World) (game : GameAloneValue) (from : ℕ) → game.minds ≡ minds → game.seed ≡ seed → standing game ≡ after_rounds minds seed (start_of w) from
    → worlds_from game ≡ (λ i. world_after minds seed w (from + i))
unfolding worlds_from world_after
worlds_from-begun minds seed w game from same_minds same_seed now = fun_ext λ i.
    ap₂ (λ (mind : Minds) (s : ℕ). (after_rounds mind s (standing game) i).world) same_minds same_seed
    ∙ ap (λ (m : Moment). (after_rounds minds seed m i).world) now
    ∙ ap (λ (m : Moment). m.world) (after_rounds-then minds seed (start_of w) from i)

-- if the game was played up to the first round that is reported
pub broken_end-told : (minds : Minds) (seed : ℕ) (w : World) (begun game : GameAloneValue) (rounds id from : ℕ) → id < w.ids
    → begun.minds ≡ minds → begun.seed ≡ seed → standing begun ≡ start_of w → begun.done ≡ 0 → IsPlayedOn begun game from
    → broken_end minds seed w rounds id from ≡ numbered (broken_line (worlds_from game) id game.done) (rounds + 1 - game.done)
unfolding broken_end
broken_end-told minds seed w begun game rounds id from made same_minds same_seed starts none played =
    let now : standing game ≡ after_rounds minds seed (start_of w) from =
    played.now ∙ ap₂ (λ (mind : Minds) (s : ℕ). after_rounds mind s (standing begun) from) same_minds same_seed ∙ ap (λ (m : Moment). after_rounds minds seed m from) starts in
    let worlds : worlds_from game ≡ (λ i. world_after minds seed w (from + i)) = worlds_from-begun minds seed w game from (played.minds ∙ same_minds) (played.seed ∙ same_seed) now in
    let done : game.done ≡ from = (let at = played.done in omega (arith, at, none)) in
    cond-true _ _ _ (lt-ltb id w.ids made)
    ∙ sym (ap₂ (λ (f : ℕ → World) (n : ℕ). numbered (broken_line f id n) (rounds + 1 - n)) worlds done)
