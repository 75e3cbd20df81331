-- memory ran out for the chosen rounds, before a file was fetched
use Rattle.std.proofs.Common.{◌≡◌, subst}
use Rattle.std.specs.Prelude.{IsErrAnd}
use Rattle.ant_commands.specs.Jobs.{run_job}
use Rattle.ant_commands.specs.Setups.{plain_setup}
use Rattle.ant_commands.specs.declared.stop.CommandStop.{CommandStop}
use Rattle.ant_commands.proofs.Readings.{carries_wanting}
use Rattle.ant_commands.proofs.commands.run.run.Goals as goal

pub returns-in_err-game : goal.returns-in_err-game
returns-in_err-game g c =
    carries_wanting (run_job c.args.words.game.names.world.now c.args.words.game.names.red.now c.args.words.game.names.black.now (plain_setup c.args.words)) (g.S.Shelf.state c.args.shelf.now) (g.K.Sink.state c.args.out.now)
    c.from_residual.result (subst (λ (why : CommandStop). IsErrAnd c.from_residual.result (λ other. other ≡ why)) c.in_err-game.ensures c.from_residual.ensures.1)
