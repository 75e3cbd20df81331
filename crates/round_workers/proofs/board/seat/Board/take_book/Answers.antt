use Rattle.std.proofs.Common.{None, sym, ap, ◌∙◌, ◌∷◌, subst}
use Rattle.round_workers.specs.declared.board.view.BoardSlot.TheVariants.{Nothing, TheBook}
use Rattle.round_workers.specs.BoardPlays.{with_book}
use Rattle.round_workers.specs.BoardView.{IsAtRest, out_with}
use Rattle.round_workers.proofs.BoardMoves.{At, slot-held, swapped}
use Rattle.round_workers.proofs.board.seat.Board.take_book.Goals as goal

pub exchange-requires-clause-out : goal.exchange-requires-clause-out
exchange-requires-clause-out c = (Nothing, slot-held _ _ 0 Nothing _ c.in-Some.ensures.takes)

pub invariant_of-seat-2 : goal.invariant_of-seat-2
invariant_of-seat-2 c =
    let me = c.args.seat.now.hand.me in
    let done = swapped _ _ _ 0 Nothing (TheBook c.take-book.new.self) me.1 c.in-Some.ensures.takes c.exchange.ensures.lies ∙ ap (λ content. (with_book me.0, (0, TheBook content) ∷ me.1)) c.take-book.ensures.room in
    record { at_rest = subst IsAtRest (sym done) (record { live = c.args.seat.now.at_rest.live; resting = c.args.seat.now.at_rest.resting; out = ap (λ l. (0, TheBook None) ∷ l) (c.args.seat.now.at_rest.out ∙ ap out_with c.requires.free) }) }

pub returns-clause-board : goal.returns-clause-board
returns-clause-board c =
    let me = c.args.seat.now.hand.me in
    let done = swapped _ _ _ 0 Nothing (TheBook c.take-book.new.self) me.1 c.in-Some.ensures.takes c.exchange.ensures.lies in
    record { table = c.exchange.ensures.table ∙ (c.begin_book.ensures.table ∙ c.requires.board.table); knows = ap (λ (m : At). m.0.about) done ∙ c.requires.board.knows }

pub returns-in_default-clause-board : goal.returns-in_default-clause-board
returns-in_default-clause-board c = record { table = c.begin_book.ensures.table ∙ c.requires.board.table; knows = ap (λ (m : At). m.0.about) c.in_default.ensures.held_by_another ∙ c.requires.board.knows }

pub returns-in_default-clause-held_by_another : goal.returns-in_default-clause-held_by_another
returns-in_default-clause-held_by_another c = ap (λ (m : At). m.0) c.in_default.ensures.held_by_another
