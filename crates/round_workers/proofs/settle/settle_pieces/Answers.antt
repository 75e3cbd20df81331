use Rattle.std.proofs.Common.{◌∙◌}
use Rattle.round_workers.proofs.PieceLemmas.{AreConsecutive-after, AreConsecutive-item}
use Rattle.round_workers.proofs.settle.settle_pieces.Goals as goal

pub settle_piece-requires-clause-within : goal.settle_piece-requires-clause-within
settle_piece-requires-clause-within c =
    AreConsecutive-item c.args.pieces.now c.loop-piece.piece-index c.piece-item.result c.loop-piece.book.next c.loop-piece.book.to c.loop-piece-test.true c.piece-item.is c.loop-piece.invariant.follow

pub loop-piece-preserved : goal.loop-piece-preserved
loop-piece-preserved c = let old = c.loop-piece.invariant in let same = c.settle_piece.ensures.same in record {
  stands = c.settle_piece.ensures.stands;
  same = record { seed = same.seed ∙ old.same.seed; from = same.from ∙ old.same.from; to = same.to ∙ old.same.to };
  follow = AreConsecutive-after c.args.pieces.now c.loop-piece.piece-index c.piece-item.result c.loop-piece.book.next c.loop-piece.book.to _ _ c.loop-piece-test.true c.piece-item.is old.follow c.settle_piece.ensures.next same.to;
}
