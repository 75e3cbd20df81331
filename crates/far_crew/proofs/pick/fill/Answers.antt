use Rattle.std.proofs.Common.{◌∙◌, arith}
use Rattle.far_crew.proofs.pick.fill.Goals as goal

pub loop-id-preserved : goal.loop-id-preserved
loop-id-preserved g c = let old = c.loop-id.invariant in record {
  picks = λ lines picks. c.fill_turn.ensures.picks lines (old.picks lines picks);
  filled = c.fill_turn.ensures.filled;
  count = c.fill_turn.ensures.count;
  len = (let one = c.fill_turn.ensures.len in let before = old.len in omega arith);
  capacity = c.fill_turn.ensures.capacity ∙ old.capacity;
}
