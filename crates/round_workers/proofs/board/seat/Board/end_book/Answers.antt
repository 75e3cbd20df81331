use Rattle.std.proofs.Common.{ap, ◌∙◌}
use Rattle.atomic_table.specs.Table.{rest}
use Rattle.round_workers.specs.declared.board.view.BoardSlot.TheVariants.{TheBook}
use Rattle.round_workers.specs.BoardPlays.{without_book}
use Rattle.round_workers.proofs.BoardMoves.{At, hand_after, slot-held}
use Rattle.round_workers.proofs.board.seat.Board.end_book.Goals as goal

pub give_book_step-requires-clause-hand : goal.give_book_step-requires-clause-hand
give_book_step-requires-clause-hand c = hand_after _ _ _ c.exchange.ensures.table (ap (λ (m : At). m.0.about) c.exchange.ensures.lies) c.requires.hand

pub give_book_step-requires-clause-holds : goal.give_book_step-requires-clause-holds
give_book_step-requires-clause-holds c = ap (λ (m : At). m.0.holds) c.exchange.ensures.lies ∙ c.requires.holds

pub give_book_step-requires-clause-book : goal.give_book_step-requires-clause-book
give_book_step-requires-clause-book c = (c.args.room, slot-held _ _ 0 (TheBook c.args.room) _ c.exchange.ensures.lies, c.requires.stands)

pub returns-clause-gives : goal.returns-clause-gives
returns-clause-gives c = c.give_book_step.ensures.given ∙ ap (λ (m : At). (without_book m.0, rest m.1)) c.exchange.ensures.lies
