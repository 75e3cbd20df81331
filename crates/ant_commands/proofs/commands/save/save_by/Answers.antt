-- the files were accepted, and their game was saved
use Rattle.std.proofs.Common.{◌∙◌, ap, subst}
use Rattle.ant_base.specs.Sink.{Pushed}
use Rattle.ant_turn.specs.Sheet.{sheet_of}
use Rattle.ant_commands.specs.Jobs.{save_job}
use Rattle.match_save.specs.Saved.{save_text}
use Rattle.ant_commands.specs.Inner.Plans.{game_read, setting_contents}
use Rattle.ant_commands.specs.Outputs.{save_output}
use Rattle.ant_commands.proofs.Accepted.{fits_accepted, opened_accepted}
use Rattle.ant_commands.proofs.Planned.{saved_planned, tells}
use Rattle.ant_commands.proofs.Readings.{carries_pushed, carries_stop, carries_wanting_later}
use Rattle.ant_commands.proofs.commands.save.save_by.Goals as goal

pub returns-in_err-setting : goal.returns-in_err-setting
returns-in_err-setting g c = λ setup plans.
    carries_stop (save_job c.args.names.world.now c.args.names.red.now c.args.names.black.now setup) (g.S.Shelf.state c.args.shelf.now) (g.S.Shelf.state c.setting_of.new.shelf) (g.K.Sink.state c.args.out.now)
    c.from_residual.result c.in_err-setting.field-0.0 c.from_residual.ensures.1 c.in_err-setting.ensures

pub saved_setting-requires-clause-opened : goal.saved_setting-requires-clause-opened
saved_setting-requires-clause-opened g c =
    opened_accepted c.args.names.world.now c.args.names.red.now c.args.names.black.now c.in_ok-setting.ensures.fetches c.in_ok-setting.setting.world c.in_ok-setting.setting.red c.in_ok-setting.setting.black c.in_ok-setting.ensures.comes

pub saved_setting-requires-clause-fit : goal.saved_setting-requires-clause-fit
saved_setting-requires-clause-fit g c =
    fits_accepted c.args.names.world.now c.args.names.red.now c.args.names.black.now c.in_ok-setting.ensures.fetches c.in_ok-setting.setting.world c.in_ok-setting.setting.red c.in_ok-setting.setting.black (sheet_of c.args.game.now.sheet) c.in_ok-setting.ensures.comes

pub returns-in_err-saved : goal.returns-in_err-saved
returns-in_err-saved g c = λ setup plans.
    carries_wanting_later (save_job c.args.names.world.now c.args.names.red.now c.args.names.black.now setup) (g.S.Shelf.state c.args.shelf.now) (g.S.Shelf.state c.setting_of.new.shelf) (g.K.Sink.state c.args.out.now) (setting_contents c.in_ok-setting.setting)
    c.from_residual-in_err-saved.result c.from_residual-in_err-saved.ensures.1 c.in_ok-setting.ensures

pub returns : goal.returns
returns g c = λ setup plans.
    carries_pushed (save_job c.args.names.world.now c.args.names.red.now c.args.names.black.now setup) (g.S.Shelf.state c.args.shelf.now) (g.S.Shelf.state c.setting_of.new.shelf) (g.K.Sink.state c.args.out.now) (g.K.Sink.state c.write_saved.new.sink)
    (setting_contents c.in_ok-setting.setting) c.after_push.result c.write_saved.result c.after_push.ensures c.in_ok-setting.ensures
    (save_output setup (game_read c.in_ok-setting.setting)) (tells c.in_ok-setting.setting (save_output setup))
    (subst (λ text. Pushed (g.K.Sink.state c.args.out.now) (g.K.Sink.state c.write_saved.new.sink) text c.write_saved.result)
    (ap save_text c.in_ok-saved.ensures ∙ saved_planned setup c.args.game.now c.in_ok-setting.setting plans) c.write_saved.ensures.pushed)
