-- the marks that are left are at positions that are left
use Rattle.std.proofs.Common.{drop}
use Rattle.round_book.proofs.MarkLemmas.{Unmarking}
use Rattle.round_book.proofs.workspace.unmark.Given as goal

abbrev pub invariant-loop-p : goal.invariant-loop-p
invariant-loop-p l = Unmarking l.world l.marked (drop l.p-index l.places)
