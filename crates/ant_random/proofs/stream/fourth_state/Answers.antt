use Rattle.std.proofs.Common.{ap, ◌∙◌, sym}
use Rattle.std.proofs.Math.Nat.{mod-eq_of_lt}
use Rattle.ant_random.specs.Stream.{state_at}
use Rattle.ant_random.specs.Inner.Jump.{next_state}
use Rattle.ant_random.proofs.JumpLemmas.{next_state-low}
use Rattle.ant_random.proofs.stream.fourth_state.Goals as goal

pub loop-init : goal.loop-init
unfolding state_at
loop-init c = sym (mod-eq_of_lt c.ranges.seed.fits)

pub loop-preserved : goal.loop-preserved
loop-preserved c = c.next_state-state.ensures ∙ ap next_state c.loop.invariant ∙ next_state-low c.args.seed c.loop.counter
