use Rattle.std.proofs.Common.{slice_index, sym, arith}
use Rattle.std.proofs.lemmas.Grind.{get_or_default_zero}
use Rattle.std.proofs.lemmas.List.Edits.{map_over_more}
use Rattle.brain_same.specs.Inner.Classes.{renamed}
use Rattle.brain_same.proofs.classes.rename.Goals as goal

pub loop-state-preserved : goal.loop-state-preserved
loop-state-preserved c =
    let ys = c.loop-state.classes in
    let class = slice_index ys c.loop-state.state in
    rw c.new_name.ensures
    (map_over_more (renamed c.args.from c.args.to) c.args.classes.now ys c.loop-state.state class c.loop-state-test.true c.loop-state.invariant (sym (get_or_default_zero ys c.loop-state.state class (omega (arith, c.loop-state-test.true, c.loop-state.auto.classes)))))
