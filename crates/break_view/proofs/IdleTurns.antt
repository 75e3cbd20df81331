-- The turn of an ant that is dead or rests changes no score, and no break but those of states.
use Rattle.std.proofs.Common.{◌≡◌, ◌<◌, ℕ, zero, suc, true, Option, Some, None, refl, sym, ap, ap₂, ◌∙◌, subst, arith}
use Rattle.std.proofs.lemmas.Option.{same_Some}
use Rattle.hex_geometry.specs.declared.position.Pos.{Pos}
use Rattle.ant_random.specs.Stream.{SeedAndPlace}
use Rattle.cell_world.specs.declared.ant.Ant.{Ant}
use Rattle.cell_world.specs.declared.ant.Colour.TheVariants.{Red, Black}
use Rattle.cell_world.specs.declared.ant.PlacedAnt.{PlacedAnt}
use Rattle.cell_world.specs.declared.cell.Cell.{Cell}
use Rattle.cell_world.specs.declared.score.Score.{Score}
use Rattle.cell_world.specs.Score.{score_of}
use Rattle.cell_world.specs.World.{World, place_in, with_cells}
use Rattle.cell_world.proofs.Places.{place_in-inside}
use Rattle.ant_turn.specs.Minds.{Minds, mind_of}
use Rattle.ant_turn.specs.declared.turn.Deed.{Deed}
use Rattle.ant_turn.specs.TakesTurn.{TakesTurn}
use Rattle.ant_turn.specs.Turn.{acts, instruction_at, turn, turn_at, turn_from, with_ant}
use Rattle.ant_turn.proofs.OwnCells.{rest_stays}
use Rattle.break_view.specs.Inner.Changes.{LooksSame}
use Rattle.break_view.specs.Inner.Watched.{IsIdle, TurnWatched}
use Rattle.break_view.proofs.HillFood.{put-keeps}
use Rattle.break_view.proofs.QuietTurns.{put_looks, same_world}

-- two worlds have the same score, and breaks but those of states see them alike
pub record IsUnchanged (w v : World) : Type 0 where
  pub score : score_of v ≡ score_of w
  pub looks : LooksSame w v

module _ (minds : Minds) (seed place : ℕ) (w : World) (t : ℕ) where
  acts-idle : (p : Pos) (ant : Ant) (n : ℕ) → place_in w t ≡ Some p → (w.cells p).ant ≡ Some ant → 0 < n
      → IsUnchanged w (with_cells w (acts n minds seed w.cells place p ant).cells)
  unfolding score_of
  acts-idle p ant zero found is tired = absurd (omega (arith, tired))
  acts-idle p ant (suc left) found is tired =
      let new : Cell = with_ant (w.cells p) (record ant { resting = left }) in
      let keeps = put-keeps w p new (place_in-inside w t p found) refl refl in
      record {
        score = ap₂ (λ (r : ℕ) (b : ℕ). record { red = r; black = b }) (keeps Red) (keeps Black);
        looks = put_looks w p t new found is (rest_stays (instruction_at (mind_of minds ant.colour) ant.state) (w.cells p) ant left) refl;
      }

  turn_at-idle : (p : Pos) → place_in w t ≡ Some p → IsIdle w t → (o : Option Ant) → (w.cells p).ant ≡ o
      → IsUnchanged w (with_cells w (turn_at minds seed w.cells place p o).cells)
  turn_at-idle p found idle None here = record { score = refl; looks = same_world w }
  turn_at-idle p found idle (Some ant) here = acts-idle p ant ant.resting found here (idle p ant found here)

  turn_from-idle : (o : Option Pos) → place_in w t ≡ o → IsIdle w t
      → IsUnchanged w (with_cells w (turn_from minds seed w.cells place o).cells)
  turn_from-idle None found idle = record { score = refl; looks = same_world w }
  turn_from-idle (Some p) found idle = turn_at-idle p found idle (w.cells p).ant refl

-- the turn of such an ant
turn-idle : (minds : Minds) (seed place : ℕ) (w : World) (t : ℕ) → IsIdle w t
    → IsUnchanged w (with_cells w (turn minds seed w place t).cells)
unfolding turn
turn-idle minds seed place w t idle = turn_from-idle minds seed place w t (place_in w t) refl idle

-- an ant that was found and rests
pub found-idle : (w : World) (t : ℕ) (it : PlacedAnt) → place_in w t ≡ Some it.place → (w.cells it.place).ant ≡ Some it.ant → 0 < it.ant.resting → IsIdle w t
found-idle w t it at here tired p ant found is =
    let there : it.place ≡ p = same_Some it.place p (sym at ∙ found) in
    let who : it.ant ≡ ant = same_Some it.ant ant (sym here ∙ ap (λ (q : Pos). (w.cells q).ant) there ∙ is) in
    subst (λ (a : Ant). 0 < a.resting) who tired

-- an id of which no ant was found
pub dead-idle : (w : World) (t : ℕ) → place_in w t ≡ None → IsIdle w t
dead-idle w t gone p ant found is = absurd (let never : None ≡ Some p = sym gone ∙ found in cc)

-- the turn of such an ant, taken on an equal world, keeps the score
pub idle-watched : {minds : Minds} {t had left : ℕ} {before v : World} {s s' : SeedAndPlace} {deed : Deed} (w : World) (score : Score)
    → before ≡ w → IsIdle w t → TakesTurn minds t before v had left s s' deed → score ≡ score_of w → TurnWatched minds t w v s s' score true
idle-watched {minds} {t} {had} {left} {before} {v} {s} {s'} {deed} w score same idle taken is =
    let now = subst (λ (b : World). TakesTurn minds t b v had left s s' deed) same taken in
    let kept = subst (IsUnchanged w) (sym now.world) (turn-idle minds s.seed s.place w t idle) in
    record {
      world = now.world;
      stream = now.stream;
      fit = now.fit;
      score = is ∙ sym kept.score;
      same = λ _. kept.looks;
    }
