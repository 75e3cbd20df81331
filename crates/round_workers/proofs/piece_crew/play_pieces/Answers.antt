use Rattle.std.proofs.Common.{map, All, sym, subst}
use Rattle.round_book.specs.Book.{BookValue, FieldValue, window_of}
use Rattle.round_workers.specs.Inner.Pieces.{AreLooked, AreConsecutive}
use Rattle.round_workers.proofs.PieceLemmas.{done-looked, done-shares}
use Rattle.round_workers.proofs.piece_crew.play_pieces.Goals as goal

pub settle_pieces-requires-clause-follow : goal.settle_pieces-requires-clause-follow
settle_pieces-requires-clause-follow g c =
    let same = done-shares c.args.field.now c.args.turns.from c.args.turns.to c.args.pieces.now c.look_at_pieces.new.pieces c.look_at_pieces.ensures.len c.look_at_pieces.ensures.done in
    subst (λ (b : BookValue). AreConsecutive (map (λ piece. piece.share) c.look_at_pieces.new.pieces) b.next b.to) (sym c.in_ok-book.ensures.book) (subst (λ ss. AreConsecutive ss c.args.turns.from c.args.turns.to) (sym same) c.requires.follow)

pub settle_pieces-requires-clause-looked : goal.settle_pieces-requires-clause-looked
settle_pieces-requires-clause-looked g c =
    let looked = done-looked c.args.field.now c.args.turns.from c.args.turns.to c.args.pieces.now c.look_at_pieces.new.pieces c.look_at_pieces.ensures.len c.look_at_pieces.ensures.done in
    subst (λ (b : BookValue). All (λ piece. AreLooked (window_of c.begin.new.self b.from b.to) piece.share piece.looks.items) c.look_at_pieces.new.pieces) (sym c.in_ok-book.ensures.book)
    (subst (λ (f : FieldValue). All (λ piece. AreLooked (window_of f c.args.turns.from c.args.turns.to) piece.share piece.looks.items) c.look_at_pieces.new.pieces) (sym c.in_ok-book.ensures.lent) looked)
