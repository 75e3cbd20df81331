-- the looks at the turns so far are made, and the stream stands at the next guess
use Rattle.std.proofs.Common.{◌≡◌, ◌-◌, ◌≤◌, take}
use Rattle.std.specs.Vec.{vec_capacity, vec_len}
use Rattle.round_book.specs.Book.{window_of}
use Rattle.round_book.specs.Window.{guess_for}
use Rattle.round_workers.specs.Inner.Shares.{looks_for}
use Rattle.round_workers.proofs.piece.make_looks.Given as goal

abbrev pub invariant-loop-id : goal.invariant-loop-id
invariant-loop-id g l = record {
  looked : take (l.id - l.share.from) l.looks.items ≡ looks_for (window_of l.field l.from l.share.to) l.share.from (l.id - l.share.from);
  guess : l.stream.place ≡ guess_for (window_of l.field l.from l.share.to) l.id;
  seed : l.stream.seed ≡ l.field.seed;
  len : l.id - l.share.from ≤ vec_len l.looks;
  capacity : vec_capacity l.looks ≡ vec_capacity l.fn.looks;
}
