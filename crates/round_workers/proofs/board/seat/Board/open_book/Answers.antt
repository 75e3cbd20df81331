use Rattle.std.proofs.Common.{◌∷◌, None, Some, sym, ap, ◌∙◌}
use Rattle.round_workers.specs.declared.board.view.BoardSlot.TheVariants.{Nothing, TheBook}
use Rattle.round_workers.specs.Inner.BoardPlaces.{book_room}
use Rattle.round_workers.specs.BoardPlays.{opens_now}
use Rattle.round_workers.proofs.BoardMoves.{At, hand_after, lay-in, slot-held, some-there, swapped}
use Rattle.round_workers.proofs.board.seat.Board.open_book.Goals as goal

pub exchange-place-requires-clause-out : goal.exchange-place-requires-clause-out
exchange-place-requires-clause-out c = (TheBook None, slot-held _ _ 0 (TheBook None) _ c.open_step.ensures.opens)

pub book_room-room-requires : goal.book_room-room-requires
book_room-room-requires c = some-there _ None (ap book_room (sym (lay-in _ _ 0 (TheBook None) _ _ _ c.open_step.ensures.opens c.exchange-place.ensures.lay)))

pub exchange-requires-clause-out : goal.exchange-requires-clause-out
exchange-requires-clause-out c =
    let held = swapped _ _ _ 0 (TheBook None) Nothing c.args.seat.now.hand.me.1 c.open_step.ensures.opens c.exchange-place.ensures.lies in (Nothing, slot-held _ _ 0 Nothing _ held)

pub opened_step-requires-clause-hand : goal.opened_step-requires-clause-hand
opened_step-requires-clause-hand c =
    let me = c.args.seat.now.hand.me in let held = swapped _ _ _ 0 (TheBook None) Nothing me.1 c.open_step.ensures.opens c.exchange-place.ensures.lies in
    hand_after _ _ _ (c.exchange.ensures.table ∙ (c.exchange-place.ensures.table ∙ c.open_step.ensures.table))
    (ap (λ (m : At). m.0.about) (swapped _ _ _ 0 Nothing (TheBook c.put.new.self) me.1 held c.exchange.ensures.lies)) c.requires.board

pub opened_step-requires-clause-first : goal.opened_step-requires-clause-first
opened_step-requires-clause-first c =
    let me = c.args.seat.now.hand.me in let held = swapped _ _ _ 0 (TheBook None) Nothing me.1 c.open_step.ensures.opens c.exchange-place.ensures.lies in
    ap (λ (m : At). m.0.number) (swapped _ _ _ 0 Nothing (TheBook c.put.new.self) me.1 held c.exchange.ensures.lies) ∙ c.requires.first

pub opened_step-requires-clause-opening : goal.opened_step-requires-clause-opening
opened_step-requires-clause-opening c =
    let me = c.args.seat.now.hand.me in let held = swapped _ _ _ 0 (TheBook None) Nothing me.1 c.open_step.ensures.opens c.exchange-place.ensures.lies in
    ap (λ (m : At). m.0.phase) (swapped _ _ _ 0 Nothing (TheBook c.put.new.self) me.1 held c.exchange.ensures.lies)

pub opened_step-requires-clause-book : goal.opened_step-requires-clause-book
opened_step-requires-clause-book c =
    let me = c.args.seat.now.hand.me in let held = swapped _ _ _ 0 (TheBook None) Nothing me.1 c.open_step.ensures.opens c.exchange-place.ensures.lies in
    let now = swapped _ _ _ 0 Nothing (TheBook c.put.new.self) me.1 held c.exchange.ensures.lies ∙ ap (λ content. (opens_now me.0, (0, TheBook content) ∷ me.1)) c.put.ensures in
    (Some c.args.book, slot-held _ _ 0 (TheBook (Some c.args.book)) _ now, c.requires.stands)
