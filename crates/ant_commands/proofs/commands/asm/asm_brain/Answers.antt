-- the one file was accepted as the program whose brain was written
use Rattle.std.proofs.Common.{false, ◌∷◌, [], refl}
use Rattle.brain_read.specs.Canonical.{brain_text}
use Rattle.ant_commands.specs.Jobs.{asm_job}
use Rattle.ant_commands.specs.Files.FileContent.{LabelledContent}
use Rattle.ant_commands.proofs.Readings.{carries_pushed, carries_stop}
use Rattle.ant_commands.proofs.commands.asm.asm_brain.Goals as goal

pub returns-in_err-made : goal.returns-in_err-made
returns-in_err-made g c =
    carries_stop (asm_job c.args.name.now false false) (g.S.Shelf.state c.args.shelf.now) (g.S.Shelf.state c.read_file.new.shelf) (g.K.Sink.state c.args.out.now)
    c.from_residual.result c.in_err-made.field-0.0 c.from_residual.ensures.1 c.in_err-made.ensures

pub returns : goal.returns
returns g c =
    carries_pushed (asm_job c.args.name.now false false) (g.S.Shelf.state c.args.shelf.now) (g.S.Shelf.state c.read_file.new.shelf) (g.K.Sink.state c.args.out.now) (g.K.Sink.state c.write_brain.new.sink)
    (LabelledContent c.in_ok-made.made.brain c.in_ok-made.made.places ∷ []) c.after_push.result c.write_brain.result c.after_push.ensures c.in_ok-made.ensures
    (brain_text c.in_ok-made.made.brain)
    (record { value = record { brain = c.in_ok-made.made.brain; places = c.in_ok-made.made.places }; read = refl; told = refl }) c.write_brain.ensures.pushed
