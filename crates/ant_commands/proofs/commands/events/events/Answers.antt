-- the files were accepted, and their game's events were written
use Rattle.ant_turn.specs.Sheet.{sheet_of}
use Rattle.ant_commands.specs.Jobs.{events_job}
use Rattle.ant_commands.specs.Setups.{plain_told}
use Rattle.ant_commands.specs.Inner.Plans.{game_read, setting_contents}
use Rattle.ant_commands.specs.Outputs.{events_output}
use Rattle.ant_commands.proofs.Accepted.{fits_accepted}
use Rattle.ant_commands.proofs.Planned.{tells}
use Rattle.ant_commands.proofs.Readings.{carries_pushed, carries_stop}
use Rattle.ant_commands.proofs.commands.events.events.Goals as goal

pub returns-in_err-setting : goal.returns-in_err-setting
returns-in_err-setting g c =
    carries_stop (events_job c.args.game.names.world.now c.args.game.names.red.now c.args.game.names.black.now c.args.food (record { told = plain_told c.args.game; from = c.args.from })) (g.S.Shelf.state c.args.shelf.now) (g.S.Shelf.state c.setting_of.new.shelf) (g.K.Sink.state c.args.out.now)
    c.from_residual.result c.in_err-setting.field-0.0 c.from_residual.ensures.1 c.in_err-setting.ensures

pub push_events-requires-clause-fit : goal.push_events-requires-clause-fit
push_events-requires-clause-fit g c =
    fits_accepted c.args.game.names.world.now c.args.game.names.red.now c.args.game.names.black.now c.in_ok-setting.ensures.fetches c.in_ok-setting.setting.world c.in_ok-setting.setting.red c.in_ok-setting.setting.black (sheet_of c.args.game.sheet) c.in_ok-setting.ensures.comes

pub returns : goal.returns
unfolding events_output
returns g c =
    carries_pushed (events_job c.args.game.names.world.now c.args.game.names.red.now c.args.game.names.black.now c.args.food (record { told = plain_told c.args.game; from = c.args.from })) (g.S.Shelf.state c.args.shelf.now) (g.S.Shelf.state c.setting_of.new.shelf) (g.K.Sink.state c.args.out.now) (g.K.Sink.state c.push_events.new.out)
    (setting_contents c.in_ok-setting.setting) c.after_push.result c.push_events.result c.after_push.ensures c.in_ok-setting.ensures
    (events_output c.args.food (record { told = plain_told c.args.game; from = c.args.from }) (game_read c.in_ok-setting.setting)) (tells c.in_ok-setting.setting (events_output c.args.food (record { told = plain_told c.args.game; from = c.args.from })))
    c.push_events.ensures
