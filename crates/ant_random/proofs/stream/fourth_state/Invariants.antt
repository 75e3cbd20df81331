use Rattle.std.proofs.Common.{◌≡◌, ◌%◌, ◌^◌}
use Rattle.ant_random.specs.Stream.{state_at}
use Rattle.ant_random.proofs.stream.fourth_state.Given as goal

abbrev pub invariant-loop : goal.invariant-loop
invariant-loop l = l.state ≡ state_at l.seed l.counter % 2 ^ 32
