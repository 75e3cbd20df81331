-- the three files, one after another
use Rattle.std.proofs.Common.{[], ◌∷◌}
use Rattle.ant_commands.specs.Files.FileContent.{WorldContent, BrainContent}
use Rattle.ant_commands.specs.Inner.Plans.{setting_contents}
use Rattle.ant_commands.specs.Inner.Reading.ReadOutcome.{Contents}
use Rattle.ant_commands.specs.Outputs.{brain_file, world_file}
use Rattle.ant_commands.specs.FaultLines.{reason_of}
use Rattle.ant_commands.proofs.Readings.{reads_stopped, reads_then, stopped_first, stopped_later}
use Rattle.ant_commands.proofs.commands.game.setting_of.Goals as goal

pub returns-in_err-world : goal.returns-in_err-world
returns-in_err-world g c =
    stopped_first setting_contents (g.S.Shelf.state c.args.shelf.now) (g.S.Shelf.state c.read_file.new.shelf) (world_file c.args.names.world.now ∷ []) (brain_file c.args.names.red.now ∷ brain_file c.args.names.black.now ∷ [])
    c.from_residual.result c.in_err-world.field-0.0 c.from_residual.ensures.1 c.in_err-world.ensures

pub returns-in_err-red : goal.returns-in_err-red
returns-in_err-red g c =
    stopped_later setting_contents (g.S.Shelf.state c.args.shelf.now) (g.S.Shelf.state c.read_file.new.shelf) (g.S.Shelf.state c.read_file-2.new.shelf) (world_file c.args.names.world.now ∷ []) (brain_file c.args.names.red.now ∷ brain_file c.args.names.black.now ∷ [])
    (WorldContent c.in_ok-world.world ∷ []) c.from_residual-in_err-red.result c.in_err-red.field-0.0 c.from_residual-in_err-red.ensures.1 c.in_ok-world.ensures
    (reads_stopped (g.S.Shelf.state c.read_file.new.shelf) (g.S.Shelf.state c.read_file-2.new.shelf) (brain_file c.args.names.red.now ∷ []) (brain_file c.args.names.black.now ∷ []) (reason_of c.in_err-red.field-0.0) c.in_err-red.ensures)

pub returns-in_err-black : goal.returns-in_err-black
returns-in_err-black g c =
    stopped_later setting_contents (g.S.Shelf.state c.args.shelf.now) (g.S.Shelf.state c.read_file-2.new.shelf) (g.S.Shelf.state c.read_file-3.new.shelf) (world_file c.args.names.world.now ∷ brain_file c.args.names.red.now ∷ []) (brain_file c.args.names.black.now ∷ [])
    (WorldContent c.in_ok-world.world ∷ BrainContent c.in_ok-red.red ∷ []) c.from_residual-in_err-black.result c.in_err-black.field-0.0 c.from_residual-in_err-black.ensures.1
    (reads_then (g.S.Shelf.state c.args.shelf.now) (g.S.Shelf.state c.read_file.new.shelf) (g.S.Shelf.state c.read_file-2.new.shelf) (world_file c.args.names.world.now ∷ []) (brain_file c.args.names.red.now ∷ [])
    (WorldContent c.in_ok-world.world ∷ []) (Contents (BrainContent c.in_ok-red.red ∷ [])) c.in_ok-world.ensures c.in_ok-red.ensures)
    c.in_err-black.ensures

pub returns : goal.returns
returns g c =
    reads_then (g.S.Shelf.state c.args.shelf.now) (g.S.Shelf.state c.read_file-2.new.shelf) (g.S.Shelf.state c.read_file-3.new.shelf) (world_file c.args.names.world.now ∷ brain_file c.args.names.red.now ∷ []) (brain_file c.args.names.black.now ∷ [])
    (WorldContent c.in_ok-world.world ∷ BrainContent c.in_ok-red.red ∷ []) (Contents (BrainContent c.in_ok-black.black ∷ []))
    (reads_then (g.S.Shelf.state c.args.shelf.now) (g.S.Shelf.state c.read_file.new.shelf) (g.S.Shelf.state c.read_file-2.new.shelf) (world_file c.args.names.world.now ∷ []) (brain_file c.args.names.red.now ∷ [])
    (WorldContent c.in_ok-world.world ∷ []) (Contents (BrainContent c.in_ok-red.red ∷ [])) c.in_ok-world.ensures c.in_ok-red.ensures)
    c.in_ok-black.ensures
