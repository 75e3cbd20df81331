-- The lines of a turn don't tell how long an ant rests, and there are none of an idle turn.
use Rattle.std.proofs.Common.{◌≡◌, ℕ, zero, suc, append-nil, arith, ◌+◌, false, true, slice_get, List, [], ◌++◌, Option, Some, None, map, option_map, codes, decimal, refl, sym, ap, ap₂, ◌∙◌}
use Rattle.std.specs.Prelude.{IfSome}
use Rattle.std.proofs.Math.Path.{fun_ext}
use Rattle.std.proofs.lemmas.Option.{same_Some}
use Rattle.ant_base.specs.Layout.{◌+++◌}
use Rattle.hex_geometry.specs.declared.position.Pos.{Pos}
use Rattle.brain_read.specs.declared.instr.Instr.{Instr}
use Rattle.brain_read.specs.declared.instr.Instr.TheVariants.{Sense, Mark, Unmark, PickUp, Drop, Turn, Move, Flip}
use Rattle.cell_world.specs.declared.ant.Ant.{Ant}
use Rattle.cell_world.specs.declared.ant.PlacedAnt.{PlacedAnt}
use Rattle.cell_world.specs.declared.ant.Colour.{Colour}
use Rattle.cell_world.specs.declared.ant.Colour.TheVariants.{Red, Black}
use Rattle.cell_world.specs.declared.cell.Cell.{Cell}
use Rattle.cell_world.specs.declared.score.Score.{Score}
use Rattle.cell_world.specs.Score.{score_of}
use Rattle.cell_world.specs.Cell.{holds_id}
use Rattle.cell_world.specs.Valid.{Valid}
use Rattle.cell_world.specs.World.{World, place_in, put, with_cells}
use Rattle.cell_world.proofs.Places.{holds_id-own, place_in-inside, Holder, place_in-ant}
use Rattle.ant_turn.specs.Minds.{Minds, mind_of}
use Rattle.ant_turn.specs.Rounds.{Moment, start_of}
use Rattle.ant_turn.specs.Turn.{Outcome, ant_becomes, execute, marked, turn, unmarked, with_ant}
use Rattle.ant_turn.specs.Listed.{IsUp}
use Rattle.ant_turn.proofs.FoundAnts.{found-holds}
use Rattle.ant_turn.proofs.FoundTurns.{found-id}
use Rattle.ant_turn.proofs.Turns.{turn-dead, turn-executes, turn-rests}
use Rattle.game_reports.specs.Events.{ant_words, changed_score, death_words, deaths_in, place_words, score_words, scores_in, turn_lines, death_line, event_lines, events_text, score_line}
use Rattle.game_reports.specs.Inner.Chunks.{is_quiet}
use Rattle.std.specs.List.{flat_map}
use Rattle.std.proofs.lemmas.Simd.{map-map}
use Rattle.match_run.specs.Seen.{ant_in, death_place, killed_as, seen, seen_by, seen_here, unrested}
use Rattle.match_run.proofs.SeenLemmas.{seen-acts, seen-dead, seen-rests, seen-there}
use Rattle.match_run.specs.Told.{told_in_rounds}
use Rattle.dump_print.specs.Texts.{seed_text}
use Rattle.game_reports.specs.Report.{report_lines, report_text, told_of}
use Rattle.match_run.proofs.ToldLemmas.{from_round-all}
use Rattle.game_reports.proofs.DeathLines.{ant_in-at}
use Rattle.game_reports.proofs.EventLemmas.{changed_score-same}
use Rattle.match_run.proofs.ScoreLemmas.{score-mind}

-- the lines of an outcome
abbrev lines_of : ℕ → World → ℕ → Outcome → List (List ℕ)
lines_of round w t outcome = map (death_words round w t) outcome.killed ++ map (score_words round w t) (changed_score (score_of w) (score_of (with_cells w outcome.cells)))

of_turn : (minds : Minds) (seed round : ℕ) (m : Moment) (t : ℕ) → turn_lines minds seed round m t ≡ lines_of round m.world t (turn minds seed m.world m.place t)
unfolding turn_lines deaths_in scores_in
of_turn minds seed round m t = refl

-- the same score makes no line
unchanged : (round : ℕ) (w : World) (t : ℕ) (after : Score) → score_of w ≡ after → map (score_words round w t) (changed_score (score_of w) after) ≡ []
unchanged round w t after same = ap (λ s. map (score_words round w t) (changed_score (score_of w) s)) (sym same) ∙ ap (map (score_words round w t)) (changed_score-same (score_of w))

-- the turn of a dead ant isn't reported
lines-dead : (minds : Minds) (seed round : ℕ) (m : Moment) (t : ℕ) → place_in m.world t ≡ None → turn_lines minds seed round m t ≡ []
lines-dead minds seed round m t dead =
    of_turn minds seed round m t ∙ ap (lines_of round m.world t) (turn-dead minds seed m.world m.place t dead) ∙ unchanged round m.world t (score_of m.world) refl

-- nor of one that rests
lines-resting : (minds : Minds) (seed round : ℕ) (m : Moment) (t : ℕ) (p : Pos) (ant : Ant) (left : ℕ) → place_in m.world t ≡ Some p → (m.world.cells p).ant ≡ Some ant → ant.resting ≡ left + 1 → turn_lines minds seed round m t ≡ []
lines-resting minds seed round m t p ant left found is tired =
    let after : Ant = record ant { resting = left } in
    of_turn minds seed round m t
    ∙ ap (lines_of round m.world t) (turn-rests minds seed m.world m.place t p ant left found is tired)
    ∙ unchanged round m.world t (score_of (with_cells m.world (ant_becomes m.world.cells p after).cells)) (score-mind m.world p (with_ant (m.world.cells p) after) (place_in-inside m.world t p found) refl refl)

-- the ant that was found doesn't rest
pub is_up : (w : World) {t : ℕ} {result : Option PlacedAnt} {it : PlacedAnt} → option_map (λ (s : PlacedAnt). s.place) result ≡ place_in w t → IfSome result (λ s. (w.cells s.place).ant ≡ Some s.ant) → result ≡ Some it
    → IsUp w t → it.ant.resting ≡ 0
is_up w {t} {result} {it} told holds is up = up it.place it.ant (found-holds w result it holds is) (found-id w t result it told holds is)

-- an ant that stands somewhere and doesn't rest is the only one of its id
pub found-up : (w : World) (p : Pos) (ant : Ant) → Valid w → (w.cells p).ant ≡ Some ant → ant.resting ≡ 0 → IsUp w ant.id
found-up w p ant valid here up q other there same =
    let one : p ≡ q = valid.once ant.id p q (holds_id-own (w.cells p) ant here) (ap (λ t. holds_id t (w.cells q)) (sym same) ∙ holds_id-own (w.cells q) other there) in
    ap (λ (a : Ant). a.resting) (same_Some other ant (sym there ∙ sym (ap (λ r. (w.cells r).ant) one) ∙ here)) ∙ up

-- a marker is neither food nor hill
marked-food : (cell : Cell) (colour : Colour) (i : ℕ) → (marked cell colour i).food ≡ cell.food
marked-food cell Red i = refl
marked-food cell Black i = refl

marked-hill : (cell : Cell) (colour : Colour) (i : ℕ) → (marked cell colour i).hill ≡ cell.hill
marked-hill cell Red i = refl
marked-hill cell Black i = refl

unmarked-food : (cell : Cell) (colour : Colour) (i : ℕ) → (unmarked cell colour i).food ≡ cell.food
unmarked-food cell Red i = refl
unmarked-food cell Black i = refl

unmarked-hill : (cell : Cell) (colour : Colour) (i : ℕ) → (unmarked cell colour i).hill ≡ cell.hill
unmarked-hill cell Red i = refl
unmarked-hill cell Black i = refl

-- nor of one whose instruction is quiet
pub lines-quiet : (minds : Minds) (seed round : ℕ) (m : Moment) (t : ℕ) (p : Pos) (ant : Ant) (instruction : Instr) → place_in m.world t ≡ Some p → (m.world.cells p).ant ≡ Some ant → ant.resting ≡ 0
    → slice_get (mind_of minds ant.colour) ant.state ≡ Some instruction → is_quiet instruction ≡ true → turn_lines minds seed round m t ≡ []
lines-quiet minds seed round m t p ant instruction found is ready at quiet =
    of_turn minds seed round m t
    ∙ ap (lines_of round m.world t) (turn-executes minds seed m.world m.place t p ant instruction found is ready at)
    ∙ go instruction quiet
  where
    kept : (cell : Cell) → cell.food ≡ (m.world.cells p).food → cell.hill ≡ (m.world.cells p).hill → map (score_words round m.world t) (changed_score (score_of m.world) (score_of (put m.world p cell))) ≡ []
    kept cell food hill = unchanged round m.world t (score_of (put m.world p cell)) (score-mind m.world p cell (place_in-inside m.world t p found) food hill)

    go : (i : Instr) → is_quiet i ≡ true → lines_of round m.world t (execute minds.sheet seed m.world.cells m.place p ant i) ≡ []
    go (Sense sight met unmet condition) calm = kept _ refl refl
    go (Mark i next) calm = kept _ (marked-food (m.world.cells p) ant.colour i) (marked-hill (m.world.cells p) ant.colour i)
    go (Unmark i next) calm = kept _ (unmarked-food (m.world.cells p) ant.colour i) (unmarked-hill (m.world.cells p) ant.colour i)
    go (PickUp met unmet) calm = absurd (cc)
    go (Drop next) calm = absurd (cc)
    go (Turn side next) calm = kept _ refl refl
    go (Move met unmet) calm = absurd (cc)
    go (Flip bound met unmet) calm = kept _ refl refl

module _ (round : ℕ) (w : World) (t : ℕ) (ant : Ant) (own : ant_in w t ≡ Some ant) where
  unrested-words : (o : Option Ant) → ant_words o ≡ ant_words (option_map unrested o)
  unrested-words None = refl
  unrested-words (Some ant) = refl

  pub death-seen : (u : ℕ) → death_words round w t u ≡ death_line round ant (killed_as w t u)
  unfolding death_words
  death-seen u =
      ap₂ (λ a b. (codes "round " +++ decimal round +++ codes ", " +++ ant_words a +++ codes ": ") +++ b +++ codes " dies on " +++ place_words (death_place w t u)) own (unrested-words (ant_in w u))

  score-seen : (score : Score) → score_words round w t score ≡ score_line round ant score
  unfolding score_words
  score-seen score = ap (λ a. (codes "round " +++ decimal round +++ codes ", " +++ ant_words a +++ codes ": ") +++ codes "score: red " +++ decimal score.red +++ codes " black " +++ decimal score.black) own

-- the lines of a turn are those of what is seen of it
lines-seen : (minds : Minds) (seed round : ℕ) (m : Moment) (t : ℕ) → turn_lines minds seed round m t ≡ flat_map (event_lines false) (seen minds seed round m t)
lines-seen minds seed round m t = go (place_in m.world t) refl
  where
    go : (place : Option Pos) → place_in m.world t ≡ place → turn_lines minds seed round m t ≡ flat_map (event_lines false) (seen minds seed round m t)
    go None dead = lines-dead minds seed round m t dead ∙ ap (flat_map (event_lines false)) (sym (seen-dead minds seed round m t dead))
    go (Some p) found = by_rest it.ant.resting refl
      where
        it : Holder t (m.world.cells p).ant
        it = place_in-ant m.world t p found

        by_rest : (n : ℕ) → it.ant.resting ≡ n → turn_lines minds seed round m t ≡ flat_map (event_lines false) (seen minds seed round m t)
        by_rest (suc left) tired =
            let more : it.ant.resting ≡ left + 1 = omega (arith, tired) in
            lines-resting minds seed round m t p it.ant left found it.is more ∙ ap (flat_map (event_lines false)) (sym (seen-rests minds seed round m t p it.ant left found it.is more))
        by_rest zero up =
            let outcome : Outcome = turn minds seed m.world m.place t in
            let own : ant_in m.world t ≡ Some it.ant = ant_in-at m.world t p it.ant found it.is in
            of_turn minds seed round m t
            ∙ ap₂ (λ (deaths scores : List (List ℕ)). deaths ++ scores)
            (ap (λ line. map line outcome.killed) (fun_ext (death-seen round m.world t it.ant own)) ∙ sym (map-map (death_line round it.ant) (killed_as m.world t) outcome.killed))
            (ap (λ line. map line (changed_score (score_of m.world) (score_of (with_cells m.world outcome.cells)))) (fun_ext (score-seen round m.world t it.ant own)))
            ∙ sym (append-nil _)
            ∙ ap (flat_map (event_lines false)) (sym (seen-there minds seed round m t p it.ant found it.is ∙ ap (λ n. seen_by n minds seed round m t p it.ant) up))

-- so the text of events is a report, from the first round on
pub events-report : (minds : Minds) (seed : ℕ) (w : World) (rounds : ℕ) → report_text (event_lines false) 0 minds seed w rounds ≡ events_text minds seed w rounds
unfolding report_text report_lines events_text
events-report minds seed w rounds =
    ap (λ telling. seed_text seed +++ flat_map (λ words. words +++ codes "\n") (told_in_rounds telling minds seed (start_of w) rounds))
    (from_round-all (told_of (event_lines false) minds seed) ∙ fun_ext λ round. fun_ext λ m. fun_ext λ t. sym (lines-seen minds seed round m t))

-- and of an acting ant they are those of what is seen here
pub lines-here : (minds : Minds) (seed round : ℕ) (m : Moment) (it : PlacedAnt) → place_in m.world it.ant.id ≡ Some it.place → (m.world.cells it.place).ant ≡ Some it.ant → it.ant.resting ≡ 0
    → turn_lines minds seed round m it.ant.id ≡ event_lines false (seen_here minds seed round m it)
lines-here minds seed round m it found is up = lines-seen minds seed round m it.ant.id ∙ ap (flat_map (event_lines false)) (seen-acts minds seed round m it found is up) ∙ append-nil _
