-- the lines so far
use Rattle.std.proofs.Common.{◌≡◌}
use Rattle.world_gen.proofs.cells.blob.Given as goal
use Rattle.world_gen.specs.Inner.Open.{lines_from, walked}

abbrev pub invariant-loop-along : goal.invariant-loop-along
invariant-loop-along l = record {
  here : l.start ≡ walked l.along l.first l.fn.corner;
  items : l.cells.items ≡ lines_from l.along l.first l.fn.corner;
}
