use Rattle.std.proofs.Common.{◌∙◌, ap}
use Rattle.cell_world.specs.Grid.{Grid, world_of}
use Rattle.cell_world.specs.Score.{score_of}
use Rattle.match_run.specs.Run.{world_after}
use Rattle.match_run.specs.Alone.{GameAloneValue, standing}
use Rattle.ant_turn.specs.Rounds.{after_rounds}
use Rattle.match_run.proofs.AloneLemmas.{IsPlayedOn-world}
use Rattle.match_run.proofs.alone.play_score.Goals as goal

pub returns : goal.returns
unfolding world_after
returns c =
    c.score.ensures.score
    ∙ ap (λ (w : Grid). score_of (world_of w)) c.world.ensures
    ∙ ap score_of (IsPlayedOn-world c.play_on.ensures)
    ∙ ap (λ (game : GameAloneValue). score_of (after_rounds game.minds game.seed (standing game) c.args.rounds).world) c.begin-game.ensures
