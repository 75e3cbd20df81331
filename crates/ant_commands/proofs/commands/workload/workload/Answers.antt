-- The world was generated, or the command stopped. The game on it was played, and its result was written.
use Rattle.std.proofs.Common.{[], refl, ap}
use Rattle.ant_commands.specs.Jobs.{workload_job}
use Rattle.ant_commands.specs.Outputs.{contest_shape, workload_text}
use Rattle.ant_commands.proofs.Generated.{carries_ungenerated, fits_generated}
use Rattle.ant_commands.proofs.Readings.{carries_pushed, carries_wanting, reads_none}
use Rattle.ant_commands.proofs.commands.workload.workload.Goals as goal

pub returns-in_err-world : goal.returns-in_err-world
returns-in_err-world g c = λ workers.
    carries_ungenerated (workload_job c.args.seed c.args.rounds workers) c.args.seed contest_shape (g.S.Shelf.state c.args.shelf.now) (g.K.Sink.state c.args.out.now) c.from_residual.result c.in_err-world.field-0.0 refl (λ element lacks. lacks)
    c.from_residual.ensures.1 c.in_err-world.ensures

pub summary_of-requires-clause-fit : goal.summary_of-requires-clause-fit
summary_of-requires-clause-fit g c = fits_generated c.args.seed contest_shape c.in_ok-world.world c.in_ok-world.ensures

pub returns-in_err-brain : goal.returns-in_err-brain
returns-in_err-brain g c = λ workers.
    carries_wanting (workload_job c.args.seed c.args.rounds workers) (g.S.Shelf.state c.args.shelf.now) (g.K.Sink.state c.args.out.now) c.from_residual-in_err-brain.result c.from_residual-in_err-brain.ensures.1

pub returns-in_err-summary : goal.returns-in_err-summary
returns-in_err-summary g c = λ workers.
    carries_wanting (workload_job c.args.seed c.args.rounds workers) (g.S.Shelf.state c.args.shelf.now) (g.K.Sink.state c.args.out.now) c.from_residual-in_err-summary.result c.from_residual-in_err-summary.ensures.1

pub returns : goal.returns
returns g c = λ workers.
    carries_pushed (workload_job c.args.seed c.args.rounds workers) (g.S.Shelf.state c.args.shelf.now) (g.S.Shelf.state c.args.shelf.now) (g.K.Sink.state c.args.out.now) (g.K.Sink.state c.push_summary.new.out)
    [] c.after_push.result c.push_summary.result c.after_push.ensures (reads_none (g.S.Shelf.state c.args.shelf.now))
    (workload_text c.args.seed c.args.rounds c.in_ok-summary.summary)
    (record { value = tt; read = refl; told = record { world = c.in_ok-world.world; generated = c.in_ok-world.ensures; told = ap (workload_text c.args.seed c.args.rounds) c.in_ok-summary.ensures } }) c.push_summary.ensures
