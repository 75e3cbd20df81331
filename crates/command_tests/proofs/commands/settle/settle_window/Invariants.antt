use Rattle.std.proofs.Common.{◌≡◌, ◌+◌}
use Rattle.round_book.specs.Book.{IsSameWindow, StandsOn}
use Rattle.command_tests.proofs.commands.settle.settle_window.Given as goal

-- this many turns are settled
abbrev pub invariant-loop-guess : goal.invariant-loop-guess
invariant-loop-guess l = record {
  stands : StandsOn l.field l.book;
  same : IsSameWindow l.fn.book l.book;
  next : l.book.next ≡ l.fn.book.from + l.guess-index;
}
