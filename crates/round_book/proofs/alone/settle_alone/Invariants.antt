-- the turns before this one are settled, and the stream stands at its guess
use Rattle.std.proofs.Common.{◌≡◌}
use Rattle.round_book.proofs.SoloLemmas.{Going}
use Rattle.round_book.specs.Book.{IsSameWindow}
use Rattle.round_book.proofs.alone.settle_alone.Given as goal

abbrev pub invariant-loop-id : goal.invariant-loop-id
invariant-loop-id g l = record {
  going : Going l.field l.fn.book.from l.fn.book.to l.id l.book l.stream.place;
  seed : l.stream.seed ≡ l.field.seed;
  same : IsSameWindow l.fn.book l.book;
}
