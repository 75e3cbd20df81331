-- the positions so far
use Rattle.std.proofs.Common.{◌≡◌, ◌++◌}
use Rattle.world_gen.proofs.cells.push_line.Given as goal
use Rattle.world_gen.specs.Inner.Open.{line_from, walked}

abbrev pub invariant-loop-beside : goal.invariant-loop-beside
invariant-loop-beside l = record {
  here : l.p ≡ walked l.beside l.way l.fn.start;
  items : l.cells.items ≡ l.fn.cells.items ++ line_from l.beside l.way l.fn.start;
}
