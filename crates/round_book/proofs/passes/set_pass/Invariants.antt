-- what is left of the pass leads where the whole pass leads
use Rattle.std.proofs.Common.{drop}
use Rattle.cell_world.specs.Grid.{world_of}
use Rattle.round_book.proofs.PassLemmas.{PassLeft}
use Rattle.round_book.proofs.passes.set_pass.Given as goal

abbrev pub invariant-loop-write : goal.invariant-loop-write
invariant-loop-write l = PassLeft l.heavier (world_of l.fn.world) l.writes (world_of l.world) (drop l.write-index l.writes)
