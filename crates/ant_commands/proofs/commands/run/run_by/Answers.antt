-- the files were accepted, and their game was played
use Rattle.ant_turn.specs.Sheet.{sheet_of}
use Rattle.ant_commands.specs.Jobs.{run_job}
use Rattle.ant_commands.proofs.Accepted.{fits_accepted}
use Rattle.ant_commands.proofs.Planned.{carries_game, carries_game_stopped}
use Rattle.ant_commands.proofs.Readings.{carries_stop}
use Rattle.ant_commands.proofs.commands.run.run_by.Goals as goal

pub play_setting-requires-clause-fit : goal.play_setting-requires-clause-fit
play_setting-requires-clause-fit g c =
    fits_accepted c.args.names.world.now c.args.names.red.now c.args.names.black.now c.in_ok-setting.ensures.fetches c.in_ok-setting.setting.world c.in_ok-setting.setting.red c.in_ok-setting.setting.black (sheet_of c.args.game.now.sheet) c.in_ok-setting.ensures.comes

pub returns-in_err-play_setting : goal.returns-in_err-play_setting
returns-in_err-play_setting g c = λ setup plans.
    carries_game_stopped setup c.args.game.now c.in_ok-setting.setting plans c.args.names.world.now c.args.names.red.now c.args.names.black.now
    (g.S.Shelf.state c.args.shelf.now) (g.S.Shelf.state c.setting_of.new.shelf) (g.K.Sink.state c.args.out.now) (g.K.Sink.state c.play_setting.new.out) c.in_ok-setting.ensures
    c.from_residual-in_err-play_setting.result c.in_err-play_setting.field-0.0 c.from_residual-in_err-play_setting.ensures.1 c.in_err-play_setting.ensures

pub returns : goal.returns
returns g c = λ setup plans.
    carries_game setup c.args.game.now c.in_ok-setting.setting plans c.args.names.world.now c.args.names.red.now c.args.names.black.now
    (g.S.Shelf.state c.args.shelf.now) (g.S.Shelf.state c.setting_of.new.shelf) (g.K.Sink.state c.args.out.now) (g.K.Sink.state c.play_setting.new.out) c.in_ok-setting.ensures
    c.in_ok-play_setting.ensures

pub returns-in_err-setting : goal.returns-in_err-setting
returns-in_err-setting g c = λ setup plans.
    carries_stop (run_job c.args.names.world.now c.args.names.red.now c.args.names.black.now setup) (g.S.Shelf.state c.args.shelf.now) (g.S.Shelf.state c.setting_of.new.shelf) (g.K.Sink.state c.args.out.now)
    c.from_residual.result c.in_err-setting.field-0.0 c.from_residual.ensures.1 c.in_err-setting.ensures
