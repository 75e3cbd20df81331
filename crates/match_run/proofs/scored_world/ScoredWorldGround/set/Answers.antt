-- the score continues with the cell
use Rattle.std.proofs.Common.{◌≡◌, ◌∙◌, ◌≤◌, ◌+◌, ◌-◌, ap, arith, subst, sym}
use Rattle.cell_world.specs.declared.ant.Colour.TheVariants.{Red, Black}
use Rattle.cell_world.specs.declared.cell.Cell.{Cell}
use Rattle.cell_world.specs.declared.score.Score.{Score}
use Rattle.cell_world.specs.Grid.{Grid, world_of}
use Rattle.cell_world.specs.World.{put, weight}
use Rattle.hex_geometry.specs.Position.{IsInside}
use Rattle.cell_world.specs.Limits.{most_weight}
use Rattle.cell_world.specs.Score.{hill_food_in, hill_food_of, score_of}
use Rattle.match_run.proofs.ScoreLemmas.{hill_food-light, hill_food-part, hill_food-set, score-mind, score-put}
use Rattle.match_run.proofs.scored_world.ScoredWorldGround.set.Goals as goal
use Rattle.match_run.proofs.scored_world.ScoredWorldGround.set.Goals.{then-before-cell, else-before-cell}

pub food_after-requires-clause-part : goal.food_after-requires-clause-part
unfolding score_of
food_after-requires-clause-part c =
    let w = world_of c.self.inside.world in
    subst (λ n. hill_food_in Red c.cell-before.result ≤ n) (sym (ap (λ (s : Score). s.red) c.self.invariant))
    (subst (λ (cell : Cell). hill_food_in Red cell ≤ hill_food_of w Red) (sym c.cell-before.ensures.content) (hill_food-part w Red c.args.p (subst (λ (g : Grid). IsInside g.width g.height c.args.p) (sym c.self.view_is) c.requires.inside)))

pub food_after-requires-clause-light : goal.food_after-requires-clause-light
unfolding score_of
food_after-requires-clause-light c =
    subst (λ n. n ≤ most_weight) (sym (ap (λ (s : Score). s.red) c.self.invariant)) (hill_food-light c.self.inside.world Red c.cell-before.ensures.world)

pub food_after-requires-clause-light_after : goal.food_after-requires-clause-light_after
food_after-requires-clause-light_after c = hill_food-set (world_of c.self.inside.world) Red c.args.p c.args.cell (subst (λ (g : Grid). IsInside g.width g.height c.args.p) (sym c.self.view_is) c.requires.inside) (subst (λ (g : Grid). weight (put (world_of g) c.args.p c.args.cell) ≤ most_weight) (sym c.self.view_is) c.requires.light_enough)

pub food_after-requires-else-before-cell-clause-part : goal.food_after-requires-else-before-cell-clause-part
unfolding score_of
food_after-requires-else-before-cell-clause-part c =
    let w = world_of c.self.inside.world in
    subst (λ n. hill_food_in Black c.cell-before.result ≤ n) (sym (ap (λ (s : Score). s.black) c.self.invariant))
    (subst (λ (cell : Cell). hill_food_in Black cell ≤ hill_food_of w Black) (sym c.cell-before.ensures.content) (hill_food-part w Black c.args.p (subst (λ (g : Grid). IsInside g.width g.height c.args.p) (sym c.self.view_is) c.requires.inside)))

pub food_after-requires-else-before-cell-clause-light : goal.food_after-requires-else-before-cell-clause-light
unfolding score_of
food_after-requires-else-before-cell-clause-light c =
    subst (λ n. n ≤ most_weight) (sym (ap (λ (s : Score). s.black) c.self.invariant)) (hill_food-light c.self.inside.world Black c.cell-before.ensures.world)

pub food_after-requires-else-before-cell-clause-light_after : goal.food_after-requires-else-before-cell-clause-light_after
food_after-requires-else-before-cell-clause-light_after c = hill_food-set (world_of c.self.inside.world) Black c.args.p c.args.cell (subst (λ (g : Grid). IsInside g.width g.height c.args.p) (sym c.self.view_is) c.requires.inside) (subst (λ (g : Grid). weight (put (world_of g) c.args.p c.args.cell) ≤ most_weight) (sym c.self.view_is) c.requires.light_enough)

pub invariant_of-self : goal.invariant_of-self
invariant_of-self c =
    let w = world_of c.self.inside.world in
    let inside = subst (λ (g : Grid). IsInside g.width g.height c.args.p) (sym c.self.view_is) c.requires.inside in
    let hill = subst (λ (g : Grid). c.args.cell.hill ≡ ((world_of g).cells c.args.p).hill) (sym c.self.view_is) c.requires.same_hill in
    elim c.if-before-cell.branch [
      | then-before-cell t ↦
          let same : c.args.cell.food ≡ c.cell-before.result.food = omega (arith, t.if-before-cell.true) in
          t.self-is
          ∙ c.self.invariant
          ∙ score-mind w c.args.p c.args.cell inside (same ∙ ap (λ (cell : Cell). cell.food) c.cell-before.ensures.content) hill
          ∙ ap score_of (sym c.set.ensures.set)
      | else-before-cell t ↦
          t.self-is
          ∙ score-put w c.args.p c.cell-before.result c.args.cell t.food_after.result t.food_after-else-before-cell.result inside c.cell-before.ensures.content
          (t.food_after.ensures ∙ ap (λ (s : Score). s.red - hill_food_in Red c.cell-before.result + hill_food_in Red c.args.cell) c.self.invariant)
          (t.food_after-else-before-cell.ensures ∙ ap (λ (s : Score). s.black - hill_food_in Black c.cell-before.result + hill_food_in Black c.args.cell) c.self.invariant)
          ∙ ap score_of (sym c.set.ensures.set)
    ]
