-- the turns before this one are settled
use Rattle.std.proofs.Common.{◌≡◌, ◌+◌}
use Rattle.round_book.specs.Book.{IsSameWindow, StandsOn}
use Rattle.round_workers.proofs.settle.settle_piece.Given as goal

abbrev pub invariant-loop-look : goal.invariant-loop-look
invariant-loop-look l = record {
  stands : StandsOn l.field l.book;
  same : IsSameWindow l.fn.book l.book;
  next : l.book.next ≡ l.piece.share.from + l.look-index;
}
