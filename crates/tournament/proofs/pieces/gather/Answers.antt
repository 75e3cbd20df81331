use Rattle.std.proofs.Common.{◌≡◌, ◌++◌, false, sym, ap, ◌∙◌}
use Rattle.std.proofs.lemmas.List.Elements.{All-more}
use Rattle.tournament.proofs.PiecesLemmas.{played_more}
use Rattle.tournament.proofs.pieces.gather.Goals as goal

pub loop-piece-preserved : goal.loop-piece-preserved
loop-piece-preserved c = (
  c.in_ok-extend_from_slice.ensures.items ∙ ap (λ t. c.loop-piece.played.items ++ t) c.deref.ensures.value
      ∙ ap (λ t. t ++ c.piece-item.result.played.items) c.loop-piece.invariant.0 ∙ sym (played_more c.args.pieces.now c.loop-piece.piece-index c.piece-item.result c.loop-piece-test.true c.piece-item.is),
  All-more (λ piece. piece.refused ≡ false) c.args.pieces.now c.loop-piece.piece-index c.piece-item.result c.loop-piece-test.true c.loop-piece.invariant.1
      (ap (λ piece. piece.refused) (sym c.piece-item.is) ∙ c.if-piece.false),
)
