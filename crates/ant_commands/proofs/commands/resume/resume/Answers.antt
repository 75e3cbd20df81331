-- the file was accepted, and its game went on
use Rattle.std.proofs.Common.{◌≡◌, ℕ, Bool, false, ◌∷◌, [], ap, ap₂, refl, sym, subst}
use Rattle.ant_commands.specs.Jobs.{resume_job}
use Rattle.ant_commands.specs.Setups.{plain_resume}
use Rattle.match_run.specs.Play.{PushedBy}
use Rattle.match_save.specs.Resumed.{resumed_text}
use Rattle.ant_commands.specs.Files.FileContent.{SaveContent}
use Rattle.ant_commands.specs.Outputs.{resume_output}
use Rattle.ant_commands.proofs.Readings.{carries_played, carries_stop, carries_wanting}
use Rattle.ant_commands.proofs.commands.resume.resume.Goals as goal

pub returns-in_err-dumps : goal.returns-in_err-dumps
returns-in_err-dumps g c =
    carries_wanting (resume_job c.args.name.now (plain_resume c.args.options)) (g.S.Shelf.state c.args.shelf.now) (g.K.Sink.state c.args.out.now) c.from_residual.result c.from_residual.ensures.1

pub returns-in_err-saved : goal.returns-in_err-saved
returns-in_err-saved g c =
    carries_stop (resume_job c.args.name.now (plain_resume c.args.options)) (g.S.Shelf.state c.args.shelf.now) (g.S.Shelf.state c.saved_in.new.shelf) (g.K.Sink.state c.args.out.now)
    c.from_residual-in_err-saved.result c.in_err-saved.field-0.0 c.from_residual-in_err-saved.ensures.1 c.in_err-saved.ensures

pub returns : goal.returns
unfolding resume_output
returns g c =
    carries_played (resume_job c.args.name.now (plain_resume c.args.options)) (g.S.Shelf.state c.args.shelf.now) (g.S.Shelf.state c.saved_in.new.shelf) (g.K.Sink.state c.args.out.now) (g.K.Sink.state c.resume.new.sink)
    (SaveContent c.in_ok-saved.saved ∷ []) c.after_play-2.result c.resume.result c.after_play-2.ensures c.in_ok-saved.ensures
    (resume_output (plain_resume c.args.options) c.in_ok-saved.saved) (record { value = c.in_ok-saved.saved; read = refl; told = refl })
    (subst (λ text. PushedBy (g.K.Sink.state c.args.out.now) (g.K.Sink.state c.resume.new.sink) text c.resume.result) (ap (λ (chosen : ℕ → Bool). resumed_text c.in_ok-saved.saved c.args.options.rounds chosen c.args.options.stats) c.in_ok-dumps.ensures) c.resume.ensures.text) (λ front. tt)

pub returns-then-not-stats : goal.returns-then-not-stats
unfolding resume_output
returns-then-not-stats g c =
    let off : c.args.options.stats ≡ false = c.if-not-stats.true in
    carries_played (resume_job c.args.name.now (plain_resume c.args.options)) (g.S.Shelf.state c.args.shelf.now) (g.S.Shelf.state c.saved_in.new.shelf) (g.K.Sink.state c.args.out.now) (g.K.Sink.state c.resume_alone.new.sink)
    (SaveContent c.in_ok-saved.saved ∷ []) c.after_play.result c.resume_alone.result c.after_play.ensures c.in_ok-saved.ensures
    (resume_output (plain_resume c.args.options) c.in_ok-saved.saved) (record { value = c.in_ok-saved.saved; read = refl; told = refl })
    (subst (λ text. PushedBy (g.K.Sink.state c.args.out.now) (g.K.Sink.state c.resume_alone.new.sink) text c.resume_alone.result)
    (ap₂ (λ (chosen : ℕ → Bool) (stats : Bool). resumed_text c.in_ok-saved.saved c.args.options.rounds chosen stats) c.in_ok-dumps.ensures (sym off)) c.resume_alone.ensures.text) (λ front. tt)
