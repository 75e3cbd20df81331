-- the files were accepted, and their game was played to its first stop
use Rattle.std.proofs.Common.{[], ◌∷◌, ◌++◌, refl}
use Rattle.ant_turn.specs.Minds.{contest_minds}
use Rattle.ant_turn.specs.Sheet.{contest}
use Rattle.break_view.specs.Texts.{view_of}
use Rattle.cell_world.specs.Grid.{world_of}
use Rattle.ant_commands.specs.Jobs.{view_job}
use Rattle.ant_commands.specs.Files.FileContent.{BreakContent}
use Rattle.ant_commands.specs.Inner.Plans.{game_read, setting_contents}
use Rattle.ant_commands.specs.Inner.Reading.ReadOutcome.{Contents}
use Rattle.ant_commands.specs.Outputs.{break_file, game_files}
use Rattle.ant_commands.proofs.Accepted.{fits_accepted}
use Rattle.ant_commands.proofs.Readings.{carries_pushed, carries_stop, reads_stopped, reads_then}
use Rattle.ant_commands.proofs.Viewed.{view_of-view}
use Rattle.ant_commands.proofs.commands.view.view.Goals as goal

pub returns-in_err-setting : goal.returns-in_err-setting
returns-in_err-setting g c =
    carries_stop (view_job c.args.game.names.world.now c.args.game.names.red.now c.args.game.names.black.now c.args.breaks.now c.args.game.seed c.args.game.rounds c.args.from) (g.S.Shelf.state c.args.shelf.now) (g.S.Shelf.state c.setting_of.new.shelf) (g.K.Sink.state c.args.out.now)
    c.from_residual.result c.in_err-setting.field-0.0 c.from_residual.ensures.1
    (reads_stopped (g.S.Shelf.state c.args.shelf.now) (g.S.Shelf.state c.setting_of.new.shelf) (game_files c.args.game.names.world.now c.args.game.names.red.now c.args.game.names.black.now) (break_file c.args.breaks.now ∷ []) _ c.in_err-setting.ensures)

pub returns-in_err-breaks : goal.returns-in_err-breaks
returns-in_err-breaks g c =
    carries_stop (view_job c.args.game.names.world.now c.args.game.names.red.now c.args.game.names.black.now c.args.breaks.now c.args.game.seed c.args.game.rounds c.args.from) (g.S.Shelf.state c.args.shelf.now) (g.S.Shelf.state c.read_file.new.shelf) (g.K.Sink.state c.args.out.now)
    c.from_residual-in_err-breaks.result c.in_err-breaks.field-0.0 c.from_residual-in_err-breaks.ensures.1
    (reads_then (g.S.Shelf.state c.args.shelf.now) (g.S.Shelf.state c.setting_of.new.shelf) (g.S.Shelf.state c.read_file.new.shelf) (game_files c.args.game.names.world.now c.args.game.names.red.now c.args.game.names.black.now) (break_file c.args.breaks.now ∷ [])
    (setting_contents c.in_ok-setting.setting) _ c.in_ok-setting.ensures c.in_err-breaks.ensures)

pub push_stop-requires-clause-fit : goal.push_stop-requires-clause-fit
push_stop-requires-clause-fit g c =
    fits_accepted c.args.game.names.world.now c.args.game.names.red.now c.args.game.names.black.now c.in_ok-setting.ensures.fetches c.in_ok-setting.setting.world c.in_ok-setting.setting.red c.in_ok-setting.setting.black contest c.in_ok-setting.ensures.comes

pub returns : goal.returns
returns g c =
    carries_pushed (view_job c.args.game.names.world.now c.args.game.names.red.now c.args.game.names.black.now c.args.breaks.now c.args.game.seed c.args.game.rounds c.args.from) (g.S.Shelf.state c.args.shelf.now) (g.S.Shelf.state c.read_file.new.shelf) (g.K.Sink.state c.args.out.now) (g.K.Sink.state c.push_stop.new.out)
    (setting_contents c.in_ok-setting.setting ++ BreakContent c.in_ok-breaks.breaks ∷ []) c.after_push.result c.push_stop.result c.after_push.ensures
    (reads_then (g.S.Shelf.state c.args.shelf.now) (g.S.Shelf.state c.setting_of.new.shelf) (g.S.Shelf.state c.read_file.new.shelf) (game_files c.args.game.names.world.now c.args.game.names.red.now c.args.game.names.black.now) (break_file c.args.breaks.now ∷ [])
    (setting_contents c.in_ok-setting.setting) (Contents (BreakContent c.in_ok-breaks.breaks ∷ [])) c.in_ok-setting.ensures c.in_ok-breaks.ensures)
    (view_of (contest_minds c.in_ok-setting.setting.red c.in_ok-setting.setting.black) c.args.game.seed c.args.game.rounds c.args.from (world_of c.in_ok-setting.setting.world) c.in_ok-breaks.breaks)
    (record {
      value = record { game = game_read c.in_ok-setting.setting; breaks = c.in_ok-breaks.breaks };
      read = refl;
      told = view_of-view (contest_minds c.in_ok-setting.setting.red c.in_ok-setting.setting.black) c.args.game.seed c.args.game.rounds c.args.from (world_of c.in_ok-setting.setting.world) c.in_ok-breaks.breaks;
    })
    c.push_stop.ensures
