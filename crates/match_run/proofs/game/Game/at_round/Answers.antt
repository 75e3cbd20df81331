use Rattle.match_run.proofs.GameLemmas.{IsGame-game_at_round}
use Rattle.match_run.proofs.game.Game.at_round.Goals as goal

pub invariant_of-result : goal.invariant_of-result
invariant_of-result c = IsGame-game_at_round c.args.field c.args.window c.args.done c.args.totals c.requires
