-- the file was accepted, and its game was saved again
use Rattle.std.proofs.Common.{◌∷◌, [], ap, refl, subst}
use Rattle.ant_base.specs.Sink.{Pushed}
use Rattle.ant_commands.specs.Jobs.{advance_job}
use Rattle.match_save.specs.Saved.{save_text}
use Rattle.ant_commands.specs.Files.FileContent.{SaveContent}
use Rattle.ant_commands.specs.Outputs.{advance_output}
use Rattle.ant_commands.proofs.Readings.{carries_pushed, carries_stop, carries_wanting_later}
use Rattle.ant_commands.proofs.commands.advance.advance.Goals as goal

pub returns-in_err-saved : goal.returns-in_err-saved
returns-in_err-saved g c = λ workers.
    carries_stop (advance_job c.args.name.now c.args.rounds workers) (g.S.Shelf.state c.args.shelf.now) (g.S.Shelf.state c.saved_in.new.shelf) (g.K.Sink.state c.args.out.now)
    c.from_residual.result c.in_err-saved.field-0.0 c.from_residual.ensures.1 c.in_err-saved.ensures

pub returns-in_err-later : goal.returns-in_err-later
returns-in_err-later g c = λ workers.
    carries_wanting_later (advance_job c.args.name.now c.args.rounds workers) (g.S.Shelf.state c.args.shelf.now) (g.S.Shelf.state c.saved_in.new.shelf) (g.K.Sink.state c.args.out.now)
    (SaveContent c.in_ok-saved.saved ∷ []) c.from_residual-in_err-later.result c.from_residual-in_err-later.ensures.1 c.in_ok-saved.ensures

pub returns : goal.returns
unfolding advance_output
returns g c = λ workers.
    carries_pushed (advance_job c.args.name.now c.args.rounds workers) (g.S.Shelf.state c.args.shelf.now) (g.S.Shelf.state c.saved_in.new.shelf) (g.K.Sink.state c.args.out.now) (g.K.Sink.state c.write_saved.new.sink)
    (SaveContent c.in_ok-saved.saved ∷ []) c.after_push.result c.write_saved.result c.after_push.ensures c.in_ok-saved.ensures
    (advance_output c.args.rounds c.in_ok-saved.saved) (record { value = c.in_ok-saved.saved; read = refl; told = refl })
    (subst (λ text. Pushed (g.K.Sink.state c.args.out.now) (g.K.Sink.state c.write_saved.new.sink) text c.write_saved.result) (ap save_text c.in_ok-later.ensures.saved) c.write_saved.ensures.pushed)
