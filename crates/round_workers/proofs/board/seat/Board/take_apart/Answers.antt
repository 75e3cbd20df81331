use Rattle.std.proofs.Common.{Some, ◌≡◌, ℕ, ◌+◌, ◌-◌, ◌<◌, [], ◌∷◌, length, length-append, arith, sym, subst, ap, ◌∙◌}
use lib.ListN.{get_elem?}
use Rattle.round_workers.specs.BoardSeats.{basis_of, known, board_window}
use Rattle.round_workers.specs.BoardLaws.{IsWhereClosed, Way}
use Rattle.round_workers.specs.BoardTotals.{once_below}
use Rattle.round_workers.proofs.BoardEnd.{book-at-slot, index-at, lasts, look-at-slot, places-more, stands-so}
use Rattle.round_workers.proofs.BoardMoves.{some-same, some-there}
use Rattle.round_workers.proofs.board.seat.Board.take_apart.Goals as goal

pub overflow_cast-drawn : goal.overflow_cast-drawn
overflow_cast-drawn c =
    let key = basis_of c.args.self in let v = known c.args.seat in
    let last = lasts key c.args.seat.hand.id v c.requires.board.knows c.requires.first c.requires.whole c.args.seat.at_rest.resting c.requires.opened c.requires.free _ _ c.close_with-closed.ensures.values.2 in
    let small = last.small in let is = index-at _ 0 _ c.word-drawn.ensures in omega arith

pub book_room-home-requires : goal.book_room-home-requires
book_room-home-requires c =
    let key = basis_of c.args.self in let v = known c.args.seat in
    let last = lasts key c.args.seat.hand.id v c.requires.board.knows c.requires.first c.requires.whole c.args.seat.at_rest.resting c.requires.opened c.requires.free _ _ c.close_with-closed.ensures.values.2 in
    let it = book-at-slot key v _ _ c.take_slot.result last c.take_slot.ensures.value in some-there _ (Some it.0) it.1

pub unreachable-requires : goal.unreachable-requires
unreachable-requires c =
    let key = basis_of c.args.self in let v = known c.args.seat in
    let last = lasts key c.args.seat.hand.id v c.requires.board.knows c.requires.first c.requires.whole c.args.seat.at_rest.resting c.requires.opened c.requires.free _ _ c.close_with-closed.ensures.values.2 in
    let it = book-at-slot key v _ _ c.take_slot.result last c.take_slot.ensures.value in c.in_default.not-Some it.0 (c.take.ensures.value ∙ some-same _ _ _ c.book_room-home.ensures it.1)

pub returns-clause-book : goal.returns-clause-book
returns-clause-book c =
    let key = basis_of c.args.self in let v = known c.args.seat in
    let last = lasts key c.args.seat.hand.id v c.requires.board.knows c.requires.first c.requires.whole c.args.seat.at_rest.resting c.requires.opened c.requires.free _ _ c.close_with-closed.ensures.values.2 in
    let it = book-at-slot key v _ _ c.take_slot.result last c.take_slot.ensures.value in stands-so (board_window c.args.self) c.take.result it.0 c.in-Some.book (c.take.ensures.value ∙ some-same _ _ _ c.book_room-home.ensures it.1) c.in-Some.is it.2

pub returns-clause-drawn : goal.returns-clause-drawn
returns-clause-drawn c =
    let key = basis_of c.args.self in let v = known c.args.seat in
    let last = lasts key c.args.seat.hand.id v c.requires.board.knows c.requires.first c.requires.whole c.args.seat.at_rest.resting c.requires.opened c.requires.free _ _ c.close_with-closed.ensures.values.2 in
    λ k. last.drawn k ∙ ap (once_below k) (index-at _ 0 _ c.word-drawn.ensures)

pub returns-clause-reached : goal.returns-clause-reached
returns-clause-reached c =
    let key = basis_of c.args.self in let v = known c.args.seat in
    let last = lasts key c.args.seat.hand.id v c.requires.board.knows c.requires.first c.requires.whole c.args.seat.at_rest.resting c.requires.opened c.requires.free _ _ c.close_with-closed.ensures.values.2 in
    subst (λ n. Way (board_window c.args.self) (IsWhereClosed (board_window c.args.self) n v.put)) (index-at _ 0 _ c.word-drawn.ensures) last.reached

pub loop-ticket-preserved : goal.loop-ticket-preserved
loop-ticket-preserved c =
    let key = basis_of c.args.self in let v = known c.args.seat in
    let last = lasts key c.args.seat.hand.id v c.requires.board.knows c.requires.first c.requires.whole c.args.seat.at_rest.resting c.requires.opened c.requires.free _ _ c.close_with-closed.ensures.values.2 in
    let a : (basis_of c.args.self).from ≡ c.args.self.from = c.args.self.first in let b : (basis_of c.args.self).to ≡ c.args.self.to = c.args.self.last in
    let old = c.loop-ticket.invariant in let t : ℕ = c.loop-ticket.ticket in let inside : t < c.args.self.to - c.args.self.from = c.loop-ticket-test.true in
    let here = ap (λ l. get_elem? l (t + 1)) (sym (old.items ∙ c.take_slot.ensures.items)) ∙ c.take_slot-in-loop-ticket.ensures.value in
    let long = length-append c.loop-ticket.places.items (c.take_slot-in-loop-ticket.result ∷ []) in let longer = ap length c.push_reserved.ensures.items in let was = old.placed in
    record {
      items = c.take_slot-in-loop-ticket.ensures.items ∙ old.items;
      len = c.take_slot-in-loop-ticket.ensures.len ∙ old.len;
      taken = c.take_slot-in-loop-ticket.ensures.taken;
      placed = omega arith;
      capacity = c.push_reserved.ensures.capacity ∙ old.capacity;
      looks = places-more (board_window c.args.self) v _ _ t c.take_slot-in-loop-ticket.result was c.push_reserved.ensures.items (look-at-slot key v _ _ t _ last (omega arith) here) old.looks;
    }
