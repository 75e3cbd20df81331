-- both files were accepted as the brains that were compared
use Rattle.std.proofs.Common.{Bool, false, refl, subst, sym, true}
use Rattle.brain_same.specs.Text.{comparison_text, way_text}
use Rattle.ant_commands.specs.Jobs.{same_job}
use Rattle.ant_commands.specs.Inner.Plans.{pair_read}
use Rattle.ant_commands.specs.Inner.Reading.{CarriesOut, ending_of}
use Rattle.ant_commands.specs.Outputs.{pair_contents}
use Rattle.ant_commands.proofs.Readings.{carries_pushed, carries_stop, carries_wanting_later}
use Rattle.ant_commands.proofs.commands.same.same.Goals as goal

pub returns-in_err-pair : goal.returns-in_err-pair
returns-in_err-pair g c =
    carries_stop (same_job c.args.first.now c.args.second.now c.args.way) (g.S.Shelf.state c.args.shelf.now) (g.S.Shelf.state c.pair_of.new.shelf) (g.K.Sink.state c.args.out.now)
    c.from_residual.result c.in_err-pair.field-0.0 c.from_residual.ensures.1 c.in_err-pair.ensures

pub returns-in_err-comparison : goal.returns-in_err-comparison
returns-in_err-comparison g c =
    carries_wanting_later (same_job c.args.first.now c.args.second.now c.args.way) (g.S.Shelf.state c.args.shelf.now) (g.S.Shelf.state c.pair_of.new.shelf) (g.K.Sink.state c.args.out.now) (pair_contents (pair_read c.in_ok-pair.pair))
    c.from_residual-in_err-comparison.result c.from_residual-in_err-comparison.ensures.1 c.in_ok-pair.ensures

pub returns-then-way : goal.returns-then-way
returns-then-way g c =
    subst (λ (way : Bool). CarriesOut (same_job c.args.first.now c.args.second.now way) (g.S.Shelf.state c.args.shelf.now) (g.S.Shelf.state c.pair_of.new.shelf) (g.K.Sink.state c.args.out.now) (g.K.Sink.state c.push_to.new.sink)
    (ending_of c.after_push.result)) (sym c.if-way.true)
    (carries_pushed (same_job c.args.first.now c.args.second.now true) (g.S.Shelf.state c.args.shelf.now) (g.S.Shelf.state c.pair_of.new.shelf) (g.K.Sink.state c.args.out.now) (g.K.Sink.state c.push_to.new.sink)
    (pair_contents (pair_read c.in_ok-pair.pair)) c.after_push.result c.push_to.result c.after_push.ensures c.in_ok-pair.ensures
    (way_text c.in_ok-found.found.comparison c.in_ok-found.found.steps.items)
    (record { value = pair_read c.in_ok-pair.pair; read = refl; told = record { comparison = c.in_ok-found.found.comparison; steps = c.in_ok-found.found.steps.items; is = c.in_ok-found.ensures; told = refl } })
    c.push_to.ensures)

pub returns : goal.returns
returns g c =
    subst (λ (way : Bool). CarriesOut (same_job c.args.first.now c.args.second.now way) (g.S.Shelf.state c.args.shelf.now) (g.S.Shelf.state c.pair_of.new.shelf) (g.K.Sink.state c.args.out.now) (g.K.Sink.state c.push_to-2.new.sink)
    (ending_of c.after_push-2.result)) (sym c.if-way.false)
    (carries_pushed (same_job c.args.first.now c.args.second.now false) (g.S.Shelf.state c.args.shelf.now) (g.S.Shelf.state c.pair_of.new.shelf) (g.K.Sink.state c.args.out.now) (g.K.Sink.state c.push_to-2.new.sink)
    (pair_contents (pair_read c.in_ok-pair.pair)) c.after_push-2.result c.push_to-2.result c.after_push-2.ensures c.in_ok-pair.ensures
    (comparison_text c.in_ok-comparison.comparison)
    (record { value = pair_read c.in_ok-pair.pair; read = refl; told = record { comparison = c.in_ok-comparison.comparison; is = c.in_ok-comparison.ensures; told = refl } })
    c.push_to-2.ensures)
