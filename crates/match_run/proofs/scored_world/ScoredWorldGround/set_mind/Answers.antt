-- the ant's mind is no part of the score
use Rattle.std.proofs.Common.{◌∙◌, Some, ap, refl, subst, sym}
use Rattle.cell_world.specs.Grid.{Grid, world_of}
use Rattle.hex_geometry.specs.Position.{IsInside}
use Rattle.cell_world.specs.Score.{score_of}
use Rattle.match_run.proofs.ScoreLemmas.{score-mind}
use Rattle.match_run.proofs.scored_world.ScoredWorldGround.set_mind.Goals as goal

pub invariant_of-self : goal.invariant_of-self
invariant_of-self c =
    let w = world_of c.self.inside.world in
    c.self.invariant
    ∙ score-mind w c.args.p (record (w.cells c.args.p) { ant = Some c.args.ant }) (subst (λ (g : Grid). IsInside g.width g.height c.args.p) (sym c.self.view_is) c.requires.inside) refl refl
    ∙ ap score_of (sym c.set_mind.ensures.set)
