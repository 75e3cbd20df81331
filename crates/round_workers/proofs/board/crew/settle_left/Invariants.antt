use Rattle.std.proofs.Common.{◌≡◌, ◌-◌}
use Rattle.std.specs.Vec.{vec_len}
use Rattle.round_book.specs.Book.{window_of}
use Rattle.round_workers.specs.Inner.BoardCrew.{AreLooks, IsBookOf}
use Rattle.round_workers.proofs.board.crew.settle_left.Given as goal

abbrev pub invariant-loop-turns : goal.invariant-loop-turns
invariant-loop-turns l = record {
  book : IsBookOf l.field l.turns l.book;
  looks : AreLooks (window_of l.field l.turns.from l.turns.to) l.places.items;
  all : vec_len l.places ≡ l.turns.to - l.turns.from;
}

abbrev pub decreases-loop-turns : goal.decreases-loop-turns
decreases-loop-turns l = l.turns.to - l.book.next
