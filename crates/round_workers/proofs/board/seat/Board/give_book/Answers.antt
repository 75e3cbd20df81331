use Rattle.std.proofs.Common.{None, sym, ap, ◌∙◌, []}
use Rattle.round_workers.specs.declared.board.view.BoardSlot.TheVariants.{Nothing, TheBook}
use Rattle.round_workers.specs.Inner.BoardPlaces.{book_room}
use Rattle.round_workers.specs.BoardView.{out_with}
use Rattle.round_workers.proofs.BoardMoves.{At, hand_after, lay-in, slot-held, some-there, swapped}
use Rattle.round_workers.proofs.board.seat.Board.give_book.Goals as goal

pub exchange-place-requires-clause-out : goal.exchange-place-requires-clause-out
exchange-place-requires-clause-out c = let me = c.args.seat.now.hand.me in let out = c.args.seat.now.at_rest.out ∙ ap out_with c.requires.holds in
    (TheBook None, slot-held _ me.0 0 (TheBook None) [] (λ i. (me.0, out i)))

pub book_room-room-requires : goal.book_room-room-requires
book_room-room-requires c = let me = c.args.seat.now.hand.me in let out = c.args.seat.now.at_rest.out ∙ ap out_with c.requires.holds in
    some-there _ None (ap book_room (sym (lay-in _ me.0 0 (TheBook None) _ [] _ (λ i. (me.0, out i)) c.exchange-place.ensures.lay)))

pub end_book-requires-clause-hand : goal.end_book-requires-clause-hand
end_book-requires-clause-hand c = let me = c.args.seat.now.hand.me in let out = c.args.seat.now.at_rest.out ∙ ap out_with c.requires.holds in
    hand_after _ _ _ c.exchange-place.ensures.table (ap (λ (m : At). m.0.about) (swapped _ _ me.0 0 (TheBook None) Nothing [] (λ i. (me.0, out i)) c.exchange-place.ensures.lies)) c.requires.board

pub end_book-requires-clause-holds : goal.end_book-requires-clause-holds
end_book-requires-clause-holds c = let me = c.args.seat.now.hand.me in let out = c.args.seat.now.at_rest.out ∙ ap out_with c.requires.holds in
    ap (λ (m : At). m.0.holds) (swapped _ _ me.0 0 (TheBook None) Nothing [] (λ i. (me.0, out i)) c.exchange-place.ensures.lies) ∙ c.requires.holds

pub end_book-requires-clause-out : goal.end_book-requires-clause-out
end_book-requires-clause-out c = let me = c.args.seat.now.hand.me in let out = c.args.seat.now.at_rest.out ∙ ap out_with c.requires.holds in
    slot-held _ me.0 0 Nothing [] (swapped _ _ me.0 0 (TheBook None) Nothing [] (λ i. (me.0, out i)) c.exchange-place.ensures.lies)
