-- the one file was accepted, and what is needed of it was written
use Rattle.std.proofs.Common.{◌≡◌, Bool, true, false, [], ◌∷◌, ◌||◌, refl, sym, subst}
use Rattle.ant_asm.specs.Source.{ReadSource}
use Rattle.ant_commands.specs.Jobs.{asm_job}
use Rattle.ant_commands.specs.FaultLines.{reason_of}
use Rattle.ant_commands.specs.Inner.Reading.{ReadsFiles}
use Rattle.ant_commands.specs.Inner.Reading.ReadOutcome.{Contents, Stopped}
use Rattle.ant_commands.specs.Outputs.{IsAsmOutput, labelled_file, source_contents, source_text}
use Rattle.ant_commands.proofs.Readings.{carries_pushed, carries_stop}
use Rattle.ant_commands.proofs.commands.asm.asm_source.Goals as goal

told : (labels lines : Bool) (source : ReadSource) → (labels || lines) ≡ true → IsAsmOutput labels lines (source_contents source) (source_text labels lines source)
told true lines source wanted = record { value = source; read = refl; told = refl }
told false true source wanted = record { value = source; read = refl; told = refl }
told false false source wanted = absurd (cc)

pub returns-in_err-source : goal.returns-in_err-source
returns-in_err-source g c =
    carries_stop (asm_job c.args.name.now c.args.labels c.args.lines) (g.S.Shelf.state c.args.shelf.now) (g.S.Shelf.state c.read_file.new.shelf) (g.K.Sink.state c.args.out.now)
    c.from_residual.result c.in_err-source.field-0.0 c.from_residual.ensures.1
    (subst (λ (wanted : Bool). ReadsFiles (g.S.Shelf.state c.args.shelf.now) (g.S.Shelf.state c.read_file.new.shelf) (labelled_file wanted c.args.name.now ∷ [])
    (Stopped (reason_of c.in_err-source.field-0.0))) (sym c.requires) c.in_err-source.ensures)

pub returns : goal.returns
returns g c =
    carries_pushed (asm_job c.args.name.now c.args.labels c.args.lines) (g.S.Shelf.state c.args.shelf.now) (g.S.Shelf.state c.read_file.new.shelf) (g.K.Sink.state c.args.out.now) (g.K.Sink.state c.push_source.new.out)
    (source_contents c.in_ok-source.source) c.after_push.result c.push_source.result c.after_push.ensures
    (subst (λ (wanted : Bool). ReadsFiles (g.S.Shelf.state c.args.shelf.now) (g.S.Shelf.state c.read_file.new.shelf) (labelled_file wanted c.args.name.now ∷ [])
    (Contents (source_contents c.in_ok-source.source))) (sym c.requires) c.in_ok-source.ensures)
    (source_text c.args.labels c.args.lines c.in_ok-source.source)
    (told c.args.labels c.args.lines c.in_ok-source.source c.requires) c.push_source.ensures
