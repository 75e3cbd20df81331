-- how long ants rest is no part of the score
use Rattle.std.proofs.Common.{◌∙◌, ap, sym}
use Rattle.cell_world.specs.Grid.{world_of}
use Rattle.cell_world.specs.Resting.{one_less}
use Rattle.cell_world.specs.Score.{score_of}
use Rattle.match_run.proofs.ScoreLemmas.{score-with_rests}
use Rattle.match_run.proofs.scored_world.ScoredWorldBoard.count_down_rests.Goals as goal

pub invariant_of-self : goal.invariant_of-self
invariant_of-self c =
    c.self.invariant ∙ sym (score-with_rests (one_less c.args.from c.args.to) (world_of c.self.inside.world)) ∙ ap score_of (sym c.count_down_rests.ensures.world)
