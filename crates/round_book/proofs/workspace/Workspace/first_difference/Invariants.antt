-- so far nothing that was read has changed
use Rattle.std.proofs.Common.{drop}
use Rattle.cell_world.specs.Grid.{world_of}
use Rattle.round_book.proofs.MarkLemmas.{Comparing}
use Rattle.round_book.proofs.workspace.Workspace.first_difference.Given as goal

abbrev pub invariant-loop-read : goal.invariant-loop-read
invariant-loop-read l = Comparing l.fn.self.written.items (world_of l.fn.self.world).cells l.reads (drop l.read-index l.reads)
