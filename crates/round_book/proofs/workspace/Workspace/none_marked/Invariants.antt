-- if the rest are unwritten all are
use Rattle.std.proofs.Common.{drop}
use Rattle.std.specs.List.{AllByRecursion}
use Rattle.round_book.specs.Inner.Changes.{IsUnwritten}
use Rattle.round_book.proofs.workspace.Workspace.none_marked.Given as goal

abbrev pub invariant-loop-at : goal.invariant-loop-at
invariant-loop-at l = AllByRecursion (IsUnwritten l.fn.self.written.items) (drop l.at-index l.reads) → AllByRecursion (IsUnwritten l.fn.self.written.items) l.reads
