-- the turns before this one are settled
use Rattle.std.proofs.Common.{◌≡◌}
use Rattle.round_book.specs.Book.{IsSameWindow, StandsOn}
use Rattle.far_crew.proofs.settle.settle.Given as goal

abbrev pub invariant-loop-id : goal.invariant-loop-id
invariant-loop-id l = record {
  stands : StandsOn l.field l.book;
  next : l.book.next ≡ l.id;
  same : IsSameWindow l.fn.book l.book;
}
