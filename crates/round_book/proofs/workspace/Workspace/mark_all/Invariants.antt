-- the writes so far are marked
use Rattle.std.proofs.Common.{◌≡◌, ◌+◌, ◌≤◌, drop}
use Rattle.std.specs.Vec.{vec_capacity, vec_len}
use Rattle.round_book.specs.Inner.Workspace.{AreMarked}
use Rattle.round_book.proofs.MarkLemmas.{Marking}
use Rattle.round_book.proofs.workspace.Workspace.mark_all.Given as goal

abbrev pub invariant-loop-at : goal.invariant-loop-at
invariant-loop-at l = record {
  rest : l.self ≡ record l.fn.self { marked = l.self.marked; written = l.self.written };
  marks : AreMarked l.self.world l.self.marked.items l.self.written.items;
  marking : Marking l.fn.self.written.items l.writes l.self.written.items (drop l.at-index l.writes);
  capacity : vec_capacity l.self.written ≡ vec_capacity l.fn.self.written;
  count : vec_len l.self.written ≤ vec_len l.fn.self.written + l.at-index;
}
