use Rattle.std.proofs.Common.{◌≡◌, ℕ, true, [], sym, ◌∙◌, subst, ap, eqb-true}
use Rattle.std.proofs.lemmas.List.{nil_from_length}
use Rattle.hex_geometry.specs.Position.{IsInside}
use Rattle.cell_world.specs.Grid.{world_of}
use Rattle.cell_world.specs.Score.{score_of}
use Rattle.cell_world.specs.World.{World}
use Rattle.cell_world.proofs.Places.{place_in-inside}
use Rattle.ant_turn.specs.Minds.{minds_of}
use Rattle.ant_turn.specs.Turn.{turn}
use Rattle.break_view.specs.Inner.CellScores.{IsCounted, score_in_any}
use Rattle.break_view.specs.Inner.Changes.{is_left}
use Rattle.break_view.proofs.HillFood.{IsLight, counted-can, counted-is, score_at-light, score_of-light, turn-recounted}
use Rattle.break_view.proofs.QuietTurns.{looks_same}
use Rattle.break_view.proofs.watched_turn.take_acting.Goals as goal
use Rattle.break_view.proofs.watched_turn.take_acting.Goals.{After-is_empty, After-score_in_any-then-is_empty}

-- nobody was killed
none : (c : After-is_empty) → c.is_empty.result ≡ true → (turn (minds_of c.args.brains) c.args.stream.now.seed (world_of c.args.world.now) c.args.stream.now.place c.args.id).killed ≡ []
none c empty = sym c.take_turn-deed.ensures.killed ∙ nil_from_length c.take_turn-deed.result.killed.items (eqb-true _ _ (sym c.is_empty.ensures ∙ empty))

-- the score became that of the new world by the ant's own cell alone
counted : (c : After-score_in_any-then-is_empty) → (turn (minds_of c.args.brains) c.args.stream.now.seed (world_of c.args.world.now) c.args.stream.now.place c.args.id).killed ≡ []
    → IsCounted c.args.score.now c.score_in_any.result (score_of (world_of c.take_turn-deed.new.ground)) c.score_in_any-then-is_empty.result
counted c spared =
    turn-recounted (minds_of c.args.brains) c.args.stream.now.seed (world_of c.args.world.now) c.args.stream.now.place c.args.id c.ant_place-place.ensures.world.valid spared
    c.ant_place-place.result (world_of c.take_turn-deed.new.ground) c.args.score.now c.score_in_any.result c.score_in_any-then-is_empty.result
    c.requires.score c.ant_place-place.ensures.place (c.score_in_any.ensures ∙ ap score_in_any c.cell_at-before.ensures) c.take_turn-deed.ensures.world (c.score_in_any-then-is_empty.ensures ∙ ap score_in_any c.cell_at-after.ensures)

pub cell_at-before-requires : goal.cell_at-before-requires
cell_at-before-requires c = λ p at. place_in-inside (world_of c.args.world.now) c.args.id p (sym c.ant_place-place.ensures.place ∙ at)

pub cell_at-after-requires : goal.cell_at-after-requires
cell_at-after-requires c = λ p at.
    subst (λ (w : World). IsInside w.width w.height p) (sym c.take_turn-deed.ensures.world)
    (place_in-inside (world_of c.args.world.now) c.args.id p (sym c.ant_place-place.ensures.place ∙ at))

pub count_again-requires : goal.count_again-requires
count_again-requires c =
    counted-can c.args.score.now c.score_in_any.result (score_of (world_of c.take_turn-deed.new.ground)) c.score_in_any-then-is_empty.result
    (counted (goal.at.count_again-requires c).After-score_in_any-then-is_empty (none (goal.at.count_again-requires c).After-is_empty c.if-is_empty.true))
    (subst IsLight (sym c.requires.score) (score_of-light c.args.world.now c.ant_place-place.ensures.world))
    (subst IsLight (sym (c.score_in_any-then-is_empty.ensures ∙ ap score_in_any c.cell_at-after.ensures)) (score_at-light (world_of c.take_turn-deed.new.ground) c.ant_place-place.result c.take_turn-deed.ensures.valid))

pub returns-then-is_empty : goal.returns-then-is_empty
returns-then-is_empty c =
    let spared = none (goal.at.returns-then-is_empty c).After-is_empty c.if-is_empty.true in
    record {
      world = c.take_turn-deed.ensures.world;
      stream = c.take_turn-deed.ensures.stream;
      fit = c.take_turn-deed.ensures.fit;
      score = counted-is c.args.score.now c.score_in_any.result (score_of (world_of c.take_turn-deed.new.ground)) c.score_in_any-then-is_empty.result c.count_again.result
          (counted (goal.at.returns-then-is_empty c).After-score_in_any-then-is_empty spared) c.count_again.ensures.red c.count_again.ensures.black;
      same = λ left.
          looks_same (minds_of c.args.brains) c.args.stream.now.seed (world_of c.args.world.now) c.args.stream.now.place c.args.id
          c.ant_place-place.result (world_of c.take_turn-deed.new.ground) c.cell_at-before.result c.cell_at-after.result
          spared c.ant_place-place.ensures.place c.cell_at-before.ensures c.take_turn-deed.ensures.world c.cell_at-after.ensures
          (ap (λ (food : ℕ). is_left c.cell_at-after.result food) (sym c.food_in.ensures) ∙ sym c.is_left.ensures ∙ left);
    }
