use Rattle.std.proofs.Common.{◌≡◌, ◌+◌, arith, refl, sym, ap, ◌∙◌}
use Rattle.atomic_table.specs.Table.{rest}
use Rattle.round_workers.specs.declared.board.view.BoardSlot.TheVariants.{Nothing}
use Rattle.round_workers.specs.declared.board.view.Try.TheVariants.{OfBook}
use Rattle.round_workers.specs.BoardPlays.{after_try, without_book}
use Rattle.round_workers.specs.BoardView.{book_out}
use Rattle.round_workers.proofs.BoardMoves.{At, at-rest-so, hand_after, slot-held}
use Rattle.round_workers.proofs.board.seat.Board.settle_with_book.Goals as goal

pub settle-requires-clause-can : goal.settle-requires-clause-can
settle-requires-clause-can c = let takes = c.in-Some.ensures.takes in record {
  seated = hand_after _ _ _ c.begin_book.ensures.table (ap (λ (m : At). m.0.about) takes) c.requires.board;
  rests = ap (λ (m : At). m.0.phase) takes ∙ c.args.seat.now.at_rest.resting;
  holds = ap (λ (m : At). m.0.holds) takes;
  lent = c.requires.field;
}

pub end_book-requires-clause-hand : goal.end_book-requires-clause-hand
end_book-requires-clause-hand c = let settled = c.settle.ensures.settled in
    hand_after _ _ _ (settled.table ∙ c.begin_book.ensures.table) (settled.same.about ∙ ap (λ (m : At). m.0.about) c.in-Some.ensures.takes) c.requires.board

pub end_book-requires-clause-holds : goal.end_book-requires-clause-holds
end_book-requires-clause-holds c = c.settle.ensures.settled.same.holds ∙ ap (λ (m : At). m.0.holds) c.in-Some.ensures.takes

pub end_book-requires-clause-out : goal.end_book-requires-clause-out
end_book-requires-clause-out c = let new = c.settle.new.hand.me in let out = c.settle.ensures.settled.out ∙ ap (λ (m : At). m.1) c.in-Some.ensures.takes in
    slot-held new new.0 0 Nothing c.args.seat.now.hand.me.1 (λ i. (new.0, out i))

pub invariant_of-seat : goal.invariant_of-seat
invariant_of-seat c = let me = c.args.seat.now.hand.me in let rests = c.args.seat.now.at_rest in
    record { at_rest = at-rest-so me _ (after_try me.0 (OfBook book_out)) c.in_default.ensures.held_by_another refl refl rests.resting rests }

pub invariant_of-seat-2 : goal.invariant_of-seat-2
invariant_of-seat-2 c =
    let me = c.args.seat.now.hand.me in let settled = c.settle.ensures.settled in let new = c.settle.new.hand.me in
    let out = settled.out ∙ ap (λ (m : At). m.1) c.in-Some.ensures.takes in
    record { at_rest = at-rest-so me _ (without_book new.0) (c.end_book.ensures.gives ∙ ap (λ l. (without_book new.0, rest l)) out) (settled.same.about ∙ ap (λ (m : At). m.0.about) c.in-Some.ensures.takes) (sym c.requires.free) settled.rests c.args.seat.now.at_rest }

pub returns-clause-board : goal.returns-clause-board
returns-clause-board c = let settled = c.settle.ensures.settled in
    hand_after _ _ _ (c.end_book.ensures.table ∙ (settled.table ∙ c.begin_book.ensures.table))
    (ap (λ (m : At). m.0.about) c.end_book.ensures.gives ∙ (settled.same.about ∙ ap (λ (m : At). m.0.about) c.in-Some.ensures.takes)) c.requires.board

pub returns-clause-same : goal.returns-clause-same
returns-clause-same c = let gives = c.end_book.ensures.gives in let same = c.settle.ensures.settled.same in let takes = c.in-Some.ensures.takes in record {
  about = ap (λ (m : At). m.0.about) gives ∙ (same.about ∙ ap (λ (m : At). m.0.about) takes);
  number = ap (λ (m : At). m.0.number) gives ∙ (same.number ∙ ap (λ (m : At). m.0.number) takes);
  made = ap (λ (m : At). m.0.made) gives ∙ (same.made ∙ ap (λ (m : At). m.0.made) takes);
  parts = ap (λ (m : At). m.0.parts) gives ∙ (same.parts ∙ ap (λ (m : At). m.0.parts) takes);
  drawn = ap (λ (m : At). m.0.drawn) gives ∙ (same.drawn ∙ ap (λ (m : At). m.0.drawn) takes);
  put = ap (λ (m : At). m.0.put) gives ∙ (same.put ∙ ap (λ (m : At). m.0.put) takes);
  holds = ap (λ (m : At). m.0.holds) gives ∙ sym c.requires.free;
  opened = ap (λ (m : At). m.0.opened) gives ∙ (same.opened ∙ ap (λ (m : At). m.0.opened) takes);
}

pub returns-clause-tried : goal.returns-clause-tried
returns-clause-tried c =
    let after : c.end_book.new.hand.me.0.tries ≡ c.settle.new.hand.me.0.tries = ap (λ (m : At). m.0.tries) c.end_book.ensures.gives in
    let once : c.begin_book.new.hand.me.0.tries ≡ c.args.seat.now.hand.me.0.tries + 1 = ap (λ (m : At). m.0.tries) c.in-Some.ensures.takes in
    let meanwhile = c.settle.ensures.settled.tries in omega arith
