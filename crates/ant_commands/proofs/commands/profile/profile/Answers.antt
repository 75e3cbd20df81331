-- the files were accepted, and their game's profile was written
use Rattle.ant_turn.specs.Sheet.{sheet_of}
use Rattle.ant_commands.specs.Jobs.{profile_job}
use Rattle.ant_commands.specs.Setups.{plain_told}
use Rattle.ant_commands.specs.Inner.Plans.{game_read, setting_contents}
use Rattle.ant_commands.specs.Outputs.{profile_output}
use Rattle.ant_commands.proofs.Accepted.{fits_accepted}
use Rattle.ant_commands.proofs.Planned.{tells}
use Rattle.ant_commands.proofs.Readings.{carries_done, carries_early, carries_stop}
use Rattle.ant_commands.proofs.commands.profile.profile.Goals as goal

pub returns-in_err-setting : goal.returns-in_err-setting
returns-in_err-setting g c =
    carries_stop (profile_job c.args.game.names.world.now c.args.game.names.red.now c.args.game.names.black.now (record { told = plain_told c.args.game; from = c.args.from })) (g.S.Shelf.state c.args.shelf.now) (g.S.Shelf.state c.setting_of.new.shelf) (g.K.Sink.state c.args.out.now)
    c.from_residual.result c.in_err-setting.field-0.0 c.from_residual.ensures.1 c.in_err-setting.ensures

pub push_profile-requires-clause-fit : goal.push_profile-requires-clause-fit
push_profile-requires-clause-fit g c =
    fits_accepted c.args.game.names.world.now c.args.game.names.red.now c.args.game.names.black.now c.in_ok-setting.ensures.fetches c.in_ok-setting.setting.world c.in_ok-setting.setting.red c.in_ok-setting.setting.black (sheet_of c.args.game.sheet) c.in_ok-setting.ensures.comes

pub returns-in_err-push_profile : goal.returns-in_err-push_profile
unfolding profile_output
returns-in_err-push_profile g c =
    carries_early (profile_job c.args.game.names.world.now c.args.game.names.red.now c.args.game.names.black.now (record { told = plain_told c.args.game; from = c.args.from })) (g.S.Shelf.state c.args.shelf.now) (g.S.Shelf.state c.setting_of.new.shelf) (g.K.Sink.state c.args.out.now) (g.K.Sink.state c.push_profile.new.out)
    (setting_contents c.in_ok-setting.setting) c.from_residual-in_err-push_profile.result c.in_err-push_profile.field-0.0 c.from_residual-in_err-push_profile.ensures.1 c.in_ok-setting.ensures
    (profile_output (record { told = plain_told c.args.game; from = c.args.from }) (game_read c.in_ok-setting.setting)) (tells c.in_ok-setting.setting (profile_output (record { told = plain_told c.args.game; from = c.args.from })))
    c.in_err-push_profile.ensures

pub returns : goal.returns
unfolding profile_output
returns g c =
    carries_done (profile_job c.args.game.names.world.now c.args.game.names.red.now c.args.game.names.black.now (record { told = plain_told c.args.game; from = c.args.from })) (g.S.Shelf.state c.args.shelf.now) (g.S.Shelf.state c.setting_of.new.shelf) (g.K.Sink.state c.args.out.now) (g.K.Sink.state c.push_profile.new.out)
    (setting_contents c.in_ok-setting.setting) c.in_ok-setting.ensures
    (profile_output (record { told = plain_told c.args.game; from = c.args.from }) (game_read c.in_ok-setting.setting)) (tells c.in_ok-setting.setting (profile_output (record { told = plain_told c.args.game; from = c.args.from })))
    c.in_ok-push_profile.ensures
