-- the files were accepted, and what the ants of their game executed was written
use Rattle.ant_turn.specs.Sheet.{sheet_of}
use Rattle.ant_commands.specs.Jobs.{acts_job}
use Rattle.ant_commands.specs.Setups.{plain_told}
use Rattle.ant_commands.specs.Inner.Plans.{game_read, setting_contents}
use Rattle.ant_commands.specs.Outputs.{acts_output}
use Rattle.ant_commands.proofs.Accepted.{fits_accepted}
use Rattle.ant_commands.proofs.Planned.{tells}
use Rattle.ant_commands.proofs.Readings.{carries_pushed, carries_stop}
use Rattle.ant_commands.proofs.commands.acts.acts.Goals as goal

pub returns-in_err-setting : goal.returns-in_err-setting
returns-in_err-setting g c =
    carries_stop (acts_job c.args.game.names.world.now c.args.game.names.red.now c.args.game.names.black.now c.args.one (record { told = plain_told c.args.game; from = c.args.from })) (g.S.Shelf.state c.args.shelf.now) (g.S.Shelf.state c.setting_of.new.shelf) (g.K.Sink.state c.args.out.now)
    c.from_residual.result c.in_err-setting.field-0.0 c.from_residual.ensures.1 c.in_err-setting.ensures

pub push_acts-requires-clause-fit : goal.push_acts-requires-clause-fit
push_acts-requires-clause-fit g c =
    fits_accepted c.args.game.names.world.now c.args.game.names.red.now c.args.game.names.black.now c.in_ok-setting.ensures.fetches c.in_ok-setting.setting.world c.in_ok-setting.setting.red c.in_ok-setting.setting.black (sheet_of c.args.game.sheet) c.in_ok-setting.ensures.comes

pub returns : goal.returns
unfolding acts_output
returns g c =
    carries_pushed (acts_job c.args.game.names.world.now c.args.game.names.red.now c.args.game.names.black.now c.args.one (record { told = plain_told c.args.game; from = c.args.from })) (g.S.Shelf.state c.args.shelf.now) (g.S.Shelf.state c.setting_of.new.shelf) (g.K.Sink.state c.args.out.now) (g.K.Sink.state c.push_acts.new.out)
    (setting_contents c.in_ok-setting.setting) c.after_push.result c.push_acts.result c.after_push.ensures c.in_ok-setting.ensures
    (acts_output c.args.one (record { told = plain_told c.args.game; from = c.args.from }) (game_read c.in_ok-setting.setting)) (tells c.in_ok-setting.setting (acts_output c.args.one (record { told = plain_told c.args.game; from = c.args.from })))
    c.push_acts.ensures
