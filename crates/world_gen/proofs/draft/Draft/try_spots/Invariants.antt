-- no try so far fits
use Rattle.std.proofs.Common.{◌≡◌, ◌+◌, ◌*◌}
use Rattle.world_gen.proofs.draft.Draft.try_spots.Given as goal
use Rattle.world_gen.specs.Inner.Open.{AllOpen}
use Rattle.world_gen.specs.Placing.{NoTryFits, draws_of}

abbrev pub invariant-loop-number : goal.invariant-loop-number
invariant-loop-number l = record {
  seed : l.stream.seed ≡ l.fn.stream.seed;
  place : l.stream.place ≡ l.fn.stream.place + l.number * draws_of l.figure;
  first : NoTryFits (AllOpen l.self.width l.self.height l.self.blocked.items) l.fn.stream.seed l.self.width l.self.height l.figure l.fn.stream.place l.number;
}
