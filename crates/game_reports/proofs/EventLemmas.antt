-- The lines of events, as they are defined and as they are pushed.
use Rattle.std.proofs.Common.{◌≡◌, ℕ, ◌&&◌, List, [], ◌∷◌, ◌++◌, Some, codes, refl, sym, ◌∙◌, ap, ap₂, append_assoc}
use Rattle.std.specs.List.{flat_map}
use Rattle.std.proofs.lemmas.Bool.{cond-true, eq-eqb}
use Rattle.std.proofs.lemmas.Grind.{flat_map-append}
use Rattle.hex_geometry.specs.declared.position.Pos.{Pos}
use Rattle.ant_base.specs.Layout.{◌+++◌}
use Rattle.ant_turn.specs.Minds.{Minds}
use Rattle.ant_turn.specs.Rounds.{Moment}
use Rattle.ant_turn.specs.Turn.{Outcome, turn}
use Rattle.ant_turn.specs.Deaths.{dead_in}
use Rattle.ant_turn.proofs.Turns.{dead_in-acts, turn-acts}
use Rattle.cell_world.specs.declared.ant.Ant.{Ant}
use Rattle.cell_world.specs.declared.score.Score.{Score}
use Rattle.cell_world.specs.Valid.{Valid}
use Rattle.cell_world.specs.World.{place_in}
use Rattle.dump_print.specs.Texts.{seed_text, seed_words}
use Rattle.match_run.specs.Seen.{ant_in}
use Rattle.game_reports.specs.Events.{changed_score, death_words}
use Rattle.game_reports.specs.Inner.Broken.{broken}
use Rattle.game_reports.specs.Inner.EventWords.{told_death}
use Rattle.game_reports.proofs.DeathLines.{acts-told, ant_in-at}

-- lines after LFs and a last LF are lines before LFs, and a first one
shift : (lines : List (List ℕ)) → codes "\n" ++ flat_map (λ words. words ++ codes "\n") lines ≡ broken lines ++ codes "\n"
shift [] = refl
shift (words ∷ lines) =
    ap (λ t. codes "\n" ++ t) (append_assoc words (codes "\n") (flat_map (λ words. words ++ codes "\n") lines))
    ∙ ap (λ t. (codes "\n" ++ words) ++ t) (shift lines)
    ∙ sym (append_assoc (codes "\n" ++ words) (broken lines) (codes "\n"))

-- the text of a seed's line and of others, in the parts in which it is pushed
pub text-parts : (seed : ℕ) (lines : List (List ℕ)) → seed_text seed +++ flat_map (λ words. words +++ codes "\n") lines ≡ seed_words seed ++ (broken lines ++ codes "\n")
unfolding seed_text
text-parts seed lines = append_assoc (seed_words seed) (codes "\n") (flat_map (λ words. words ++ codes "\n") lines) ∙ ap (λ t. seed_words seed ++ t) (shift lines)

-- some lines and then more
pub broken-append : (lines more : List (List ℕ)) → broken (lines ++ more) ≡ broken lines ++ broken more
broken-append lines more = flat_map-append (λ words. codes "\n" ++ words) lines more

-- a score is the same as itself
pub changed_score-same : (s : Score) → changed_score s s ≡ []
changed_score-same s = cond-true _ _ _ (ap₂ ◌&&◌ (eq-eqb s.red s.red refl) (eq-eqb s.black s.black refl))

module _ (minds : Minds) (seed round : ℕ) (m : Moment) (t : ℕ) (p : Pos) (ant : Ant) (valid : Valid m.world) (found : place_in m.world t ≡ Some p) (is : (m.world.cells p).ant ≡ Some ant) where
  own : ant_in m.world t ≡ Some ant
  own = ant_in-at m.world t p ant found is

  -- the lines of the killed
  pub deaths-told : flat_map (λ u. codes "\n" ++ death_words round m.world t u) (turn minds seed m.world m.place t).killed ≡ flat_map (told_death round ant) (dead_in minds m.world t)
  deaths-told =
      ap (λ (o : Outcome). flat_map (λ u. codes "\n" ++ death_words round m.world t u) o.killed) (turn-acts minds seed m.world m.place t p ant found is)
      ∙ acts-told minds seed round m.world m.place t p ant valid found is ant.resting
      ∙ ap (flat_map (told_death round ant)) (sym (dead_in-acts minds m.world t p ant found is))
