use Rattle.std.proofs.Common.{◌-◌}
use Rattle.round_book.specs.Book.{StandsFor}
use Rattle.round_workers.specs.Inner.BookInHand.{HasSettled}
use Rattle.round_workers.specs.BoardSeats.{board_window}
use Rattle.round_workers.proofs.board.worker.settle_looks.Given as goal

abbrev pub invariant-loop-hand : goal.invariant-loop-hand
invariant-loop-hand l = record {
  settled : HasSettled l.fn.hand l.hand;
  stands : StandsFor (board_window l.board) l.book;
}

abbrev pub decreases-loop-hand : goal.decreases-loop-hand
decreases-loop-hand l = l.book.to - l.book.next
