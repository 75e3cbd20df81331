use Rattle.std.proofs.Common.{◌-◌, length, take, sym, ◌∙◌, ap, ap₂, arith}
use Rattle.round_book.specs.Book.{window_of}
use Rattle.round_book.specs.Window.{look_for}
use Rattle.round_workers.proofs.PieceLemmas.{looked-item, looked-length}
use Rattle.round_workers.proofs.settle.settle_piece.Goals as goal

pub slice_bounds-look-items-end : goal.slice_bounds-look-items-end
slice_bounds-look-items-end c =
    let long = looked-length (window_of c.args.field.now c.args.book.now.from c.args.book.now.to) c.args.piece.now.share c.args.piece.now.looks.items c.requires.looked in
    sym (ap (λ xs. length (take (c.args.piece.now.share.to - c.args.piece.now.share.from) xs)) c.deref.ensures.value ∙ long)

pub advance-requires-clause-look : goal.advance-requires-clause-look
advance-requires-clause-look c =
    let looked = ap (take (c.args.piece.now.share.to - c.args.piece.now.share.from)) c.deref.ensures.value ∙ c.requires.looked in
    looked-item (window_of c.args.field.now c.args.book.now.from c.args.book.now.to) c.args.piece.now.share c.deref.result.now looked c.loop-look.look-index c.look-item.result c.loop-look-test.true c.look-item.is
    ∙ ap (look_for (window_of c.args.field.now c.args.book.now.from c.args.book.now.to)) (sym c.loop-look.invariant.next)
    ∙ ap₂ (λ x y. look_for (window_of c.args.field.now x y) c.loop-look.book.next) (sym c.loop-look.invariant.same.from) (sym c.loop-look.invariant.same.to)

pub returns-clause-next : goal.returns-clause-next
returns-clause-next c =
    let long = looked-length (window_of c.args.field.now c.args.book.now.from c.args.book.now.to) c.args.piece.now.share c.args.piece.now.looks.items c.requires.looked in
    let all = ap (λ xs. length (take (c.args.piece.now.share.to - c.args.piece.now.share.from) xs)) c.deref.ensures.value in
    omega (arith, long, all, c.loop-look.invariant.next, c.loop-look-test.false, c.loop-look.auto.look-index-end)
