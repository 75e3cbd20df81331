use Rattle.std.proofs.Common.{◌≡◌, ◌+◌, ◌%◌, ◌^◌}
use Rattle.std.specs.Fn.{iterate}
use Rattle.ant_random.specs.Stream.{state_at}
use Rattle.ant_random.specs.Inner.Jump.{landed}
use Rattle.ant_random.proofs.StepLemmas.{IsWalked}
use Rattle.ant_random.proofs.stream.state_ahead.Given as goal

-- as many jumps as are left lead to the state wanted, and each digit cost two steps at most
abbrev pub invariant-digits : goal.invariant-digits
invariant-digits g l =
    (iterate (landed l.jump) l.left l.state ≡ state_at l.seed (l.place + 4) % 2 ^ 32)
    × IsWalked l.place l.left l.fn.steps l.steps

abbrev pub decreases-digits : goal.decreases-digits
decreases-digits g l = l.left
