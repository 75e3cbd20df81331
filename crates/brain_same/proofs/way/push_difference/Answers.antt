-- the numbered lines are those of the list
use Rattle.std.proofs.Common.{List, ℕ, codes, decimal, subst}
use Rattle.ant_base.specs.Layout.{◌+++◌}
use Rattle.ant_base.specs.Sink.{Pushed}
use Rattle.ant_base.proofs.Numbered.{numbered-list}
use Rattle.brain_same.specs.Inner.Blank.{blank}
use Rattle.brain_same.specs.Text.{found_text, step_text, way_text}
use Rattle.brain_same.proofs.way.push_difference.Goals as goal

pub returns : goal.returns
unfolding way_text
returns g c =
    subst (λ (lines : List ℕ). Pushed (g.K.Sink.state c.args.sink.now) (g.K.Sink.state c.push_to.new.sink)
    (codes "different after " +++ decimal c.args.answers +++ codes " answers\n" +++ lines +++ codes "first " +++ found_text c.args.first +++ codes "second " +++ found_text c.args.second)
    c.push_to.result)
    (numbered-list step_text c.args.steps.now blank) c.push_to.ensures
