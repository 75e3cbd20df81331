-- the turns of the pieces before this one are settled
use Rattle.std.proofs.Common.{drop, map}
use Rattle.round_book.specs.Book.{IsSameWindow, StandsOn}
use Rattle.round_workers.specs.Inner.Pieces.{AreConsecutive}
use Rattle.round_workers.proofs.settle.settle_pieces.Given as goal

abbrev pub invariant-loop-piece : goal.invariant-loop-piece
invariant-loop-piece l = record {
  stands : StandsOn l.field l.book;
  same : IsSameWindow l.fn.book l.book;
  follow : AreConsecutive (map (λ piece. piece.share) (drop l.piece-index l.pieces)) l.book.next l.book.to;
}
