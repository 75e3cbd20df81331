use Rattle.std.proofs.Common.{Some, sym, ap, subst}
use Rattle.std.specs.Prelude.{IsSomeAnd}
use Rattle.round_book.specs.Book.{StandsFor}
use Rattle.round_workers.specs.declared.board.view.BoardSlot.TheVariants.{Nothing, TheBook}
use Rattle.round_workers.specs.Inner.BoardPlaces.{book_room}
use Rattle.round_workers.specs.BoardSeats.{board_window}
use Rattle.round_workers.specs.BoardView.{window_about}
use Rattle.round_workers.proofs.BoardMoves.{lay-in, slot-held, some-same, some-there, swapped}
use Rattle.round_workers.proofs.board.seat.Board.begin_book.Goals as goal

pub exchange-requires-clause-out : goal.exchange-requires-clause-out
exchange-requires-clause-out c = let it = c.take_book_step-found.ensures.tells.home c.if-found-ne-HOME.false in (TheBook (Some it.0), slot-held _ _ 0 (TheBook (Some it.0)) _ it.2)

pub book_room-requires : goal.book_room-requires
book_room-requires c = let it = c.take_book_step-found.ensures.tells.home c.if-found-ne-HOME.false in
    some-there _ (Some it.0) (ap book_room (sym (lay-in _ _ 0 (TheBook (Some it.0)) _ _ _ it.2 c.exchange.ensures.lay)))

pub returns-clause-stands : goal.returns-clause-stands
returns-clause-stands c = let it = c.take_book_step-found.ensures.tells.home c.if-found-ne-HOME.false in
    let there = ap book_room (sym (lay-in _ _ 0 (TheBook (Some it.0)) _ _ _ it.2 c.exchange.ensures.lay)) in
    subst (λ content. IsSomeAnd content (StandsFor (board_window c.args.self.now))) (sym (some-same _ _ _ c.book_room.ensures there)) (subst (λ z. StandsFor (window_about z) it.0) c.requires.hand.knows it.1)

pub returns-clause-takes : goal.returns-clause-takes
returns-clause-takes c = let it = c.take_book_step-found.ensures.tells.home c.if-found-ne-HOME.false in swapped _ _ _ 0 _ Nothing c.args.hand.now.me.1 it.2 c.exchange.ensures.lies
