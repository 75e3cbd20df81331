-- The last reported score of a game is that of its end.
use Rattle.std.proofs.Common.{◌≡◌, ℕ, zero, suc, ◌+◌, ◌&&◌, Bool, true, false, cond, nat_lt, List, [], ◌∷◌, ◌++◌, slice_index_or, refl, sym, ◌∙◌, ap, ap₂}
use Rattle.std.specs.Prelude.{◌==◌}
use Rattle.std.proofs.lemmas.Bool.{eqb-true}
use Rattle.hex_geometry.specs.declared.position.Pos.{Pos}
use Rattle.hex_geometry.specs.RowOrder.{index_of, pos_at}
use Rattle.ant_turn.specs.Minds.{Minds}
use Rattle.ant_turn.specs.Rounds.{Moment, after_round, after_rounds, after_turn, after_turns, start_of}
use Rattle.ant_turn.specs.Turn.{turn}
use Rattle.cell_world.specs.declared.ant.Colour.{Colour}
use Rattle.cell_world.specs.declared.ant.Colour.TheVariants.{Red, Black}
use Rattle.cell_world.specs.declared.kind.Kind.{Kind}
use Rattle.cell_world.specs.declared.kind.Kind.TheVariants.{Rock, Clear, RedHill, BlackHill, Food}
use Rattle.cell_world.specs.declared.score.Score.{Score}
use Rattle.cell_world.specs.Cell.{one_if, rock}
use Rattle.cell_world.specs.Grid.{cell_in, world_of}
use Rattle.cell_world.specs.Opening.{floor, is_hill, opening, opening_cells}
use Rattle.cell_world.specs.Score.{hill_food_in, hill_food_of, score_of}
use Rattle.cell_world.specs.World.{World, area, sum_over, with_cells}
use Rattle.match_run.specs.Run.{world_after}
use Rattle.game_reports.specs.Events.{same_score, scores_in}
use Rattle.game_reports.specs.Laws.{LastScoreIsTheEnds, all_scores, last_or, nothing}
use Rattle.match_run.specs.Told.{told_in_rounds, told_in_turns}

-- the last of some scores and then more
last_or-append : (score : Score) (xs ys : List Score) → last_or score (xs ++ ys) ≡ last_or (last_or score xs) ys
last_or-append score [] ys = refl
last_or-append score (next ∷ xs) ys = last_or-append next xs ys

both_true : (a b : Bool) → a && b ≡ true → (a ≡ true) × (b ≡ true)
both_true true b both = (refl, both)
both_true false b both = absurd (cc)

-- the last score of a turn is the one after it
last-turn : (minds : Minds) (seed : ℕ) (m : Moment) (t : ℕ) → last_or (score_of m.world) (scores_in minds seed m t) ≡ score_of (after_turn minds seed m t).world
unfolding scores_in after_turn
last-turn minds seed m t = go (score_of m.world) (score_of (with_cells m.world (turn minds seed m.world m.place t).cells)) (same_score (score_of m.world) (score_of (with_cells m.world (turn minds seed m.world m.place t).cells))) refl
  where
    go : (before after : Score) (b : Bool) → same_score before after ≡ b → last_or before (cond b [] (after ∷ [])) ≡ after
    go before after true same =
        let both = both_true (before.red == after.red) (before.black == after.black) same in
        ap₂ (λ (r n : ℕ). let score : Score = record { red = r; black = n } in score) (eqb-true before.red after.red both.0) (eqb-true before.black after.black both.1)
    go before after false other = refl

last-turns : (minds : Minds) (seed : ℕ) (m : Moment) (from n : ℕ) → last_or (score_of m.world) (told_in_turns (scores_in minds seed) minds seed m from n) ≡ score_of (after_turns minds seed m from n).world
last-turns minds seed m from zero = refl
last-turns minds seed m from (suc n) =
    let mid : Moment = after_turns minds seed m from n in
    last_or-append (score_of m.world) (told_in_turns (scores_in minds seed) minds seed m from n) (scores_in minds seed mid (from + n))
    ∙ ap (λ s. last_or s (scores_in minds seed mid (from + n))) (last-turns minds seed m from n)
    ∙ last-turn minds seed mid (from + n)

last-rounds : (minds : Minds) (seed : ℕ) (m : Moment) (n : ℕ) → last_or (score_of m.world) (told_in_rounds (λ round. scores_in minds seed) minds seed m n) ≡ score_of (after_rounds minds seed m n).world
unfolding after_round
last-rounds minds seed m zero = refl
last-rounds minds seed m (suc n) =
    let mid : Moment = after_rounds minds seed m n in
    let more = told_in_turns (scores_in minds seed) minds seed mid 0 mid.world.ids in
    last_or-append (score_of m.world) (told_in_rounds (λ round. scores_in minds seed) minds seed m n) more
    ∙ ap (λ s. last_or s more) (last-rounds minds seed m n)
    ∙ last-turns minds seed mid 0 mid.world.ids

-- no hill has food at the start
opening_food : (colour : Colour) (t : ℕ) (kinds : List Kind) (i : ℕ) → hill_food_in colour (slice_index_or (opening_cells t kinds) i rock) ≡ 0
unfolding rock floor
opening_food colour t [] i = refl
opening_food colour t (Rock ∷ kinds) zero = refl
opening_food colour t (Clear ∷ kinds) zero = refl
opening_food Red t (RedHill ∷ kinds) zero = refl
opening_food Black t (RedHill ∷ kinds) zero = refl
opening_food Red t (BlackHill ∷ kinds) zero = refl
opening_food Black t (BlackHill ∷ kinds) zero = refl
opening_food colour t (Food n ∷ kinds) zero = refl
opening_food colour t (kind ∷ kinds) (suc i) = opening_food colour (t + one_if (is_hill kind)) kinds i

cell_food : (colour : Colour) (width height : ℕ) (kinds : List Kind) (p : Pos) → hill_food_in colour (cell_in (opening width height kinds) p) ≡ 0
unfolding cell_in opening rock
cell_food colour width height kinds p = go (nat_lt p.x width)
  where
    go : (b : Bool) → hill_food_in colour (cond b (slice_index_or (opening_cells 0 kinds) (index_of width p) rock) rock) ≡ 0
    go true = opening_food colour 0 kinds (index_of width p)
    go false = refl

no_sum : (width : ℕ) (f : Pos → ℕ) (n : ℕ) → ((p : Pos) → f p ≡ 0) → sum_over width f n ≡ 0
no_sum width f zero none = refl
no_sum width f (suc n) none = ap₂ ◌+◌ (no_sum width f n none) (none (pos_at width n))

opening-score : (width height : ℕ) (kinds : List Kind) → score_of (world_of (opening width height kinds)) ≡ nothing
unfolding score_of hill_food_of
opening-score width height kinds =
    let w : World = world_of (opening width height kinds) in
    ap₂ (λ (r n : ℕ). let score : Score = record { red = r; black = n } in score)
    (no_sum w.width (λ p. hill_food_in Red (w.cells p)) (area w) (cell_food Red width height kinds))
    (no_sum w.width (λ p. hill_food_in Black (w.cells p)) (area w) (cell_food Black width height kinds))

pub last_score_is_the_ends : LastScoreIsTheEnds
unfolding all_scores world_after
last_score_is_the_ends minds seed width height kinds rounds =
    ap (λ s. last_or s (told_in_rounds (λ round. scores_in minds seed) minds seed (start_of (world_of (opening width height kinds))) rounds)) (sym (opening-score width height kinds))
    ∙ last-rounds minds seed (start_of (world_of (opening width height kinds))) rounds
