use Rattle.std.proofs.Common.{◌≡◌, Some, ℕ, ◌+◌, ◌-◌, arith, sym, ap, ap₂, ◌∙◌}
use Rattle.atomic_table.specs.Table.{rest}
use Rattle.round_book.specs.Window.{Window, look_for}
use Rattle.round_workers.specs.declared.board.view.BoardSlot.TheVariants.{Nothing}
use Rattle.round_workers.specs.BoardPlays.{has_taken, took_look}
use Rattle.round_workers.specs.BoardSeats.{basis_of, board_window}
use Rattle.round_workers.proofs.BoardMoves.{At, hand_after, slot-held}
use Rattle.round_workers.proofs.BoardWorkers.{for-on, on-for, window_at}
use Rattle.round_workers.proofs.board.seat.Board.settle_look.Goals as goal

pub settle_by-requires-clause-stands : goal.settle_by-requires-clause-stands
settle_by-requires-clause-stands c = on-for c.args.field.now (board_window c.args.self.now) c.requires.can.lent c.args.book.now c.requires.stands

pub settle_by-requires-clause-look : goal.settle_by-requires-clause-look
settle_by-requires-clause-look c =
    let board = c.args.self.now in let book = c.args.book.now in let stands = c.requires.stands.stands in let begins : book.from ≡ (basis_of board).from = stands.from in
    let turn : (basis_of board).from + (c.next.result - board.from) ≡ book.next = (let a = board.first in let begun = c.requires.stands.begun in let next = c.next.ensures.next in omega arith) in
    c.in-Some.ensures.look ∙ (ap (λ (t : ℕ). Some (look_for (board_window board) t)) turn ∙ ap (λ (w : Window). Some (look_for w book.next)) (sym (window_at c.args.field.now (board_window board) c.requires.can.lent book.from book.to stands.from stands.to)))

pub end_take-requires-clause-hand : goal.end_take-requires-clause-hand
end_take-requires-clause-hand c = hand_after _ _ _ c.begin_take.ensures.table (ap (λ (m : At). m.0.about) c.in-Some.ensures.takes) c.requires.can.seated

pub end_take-requires-clause-taking : goal.end_take-requires-clause-taking
end_take-requires-clause-taking c = ap (λ (m : At). m.0.phase) c.in-Some.ensures.takes

pub end_take-requires-clause-out : goal.end_take-requires-clause-out
end_take-requires-clause-out c = slot-held _ _ (c.next.result - c.args.self.now.from + 1) Nothing _ c.in-Some.ensures.takes

pub returns-clause-taken : goal.returns-clause-taken
returns-clause-taken c = let ticket : ℕ = c.next.result - c.args.self.now.from in
    let done = c.end_take.ensures.has_taken ∙ ap (λ (m : At). (has_taken m.0 ticket, rest m.1)) c.in-Some.ensures.takes in
    λ was_there. ap (λ (m : At). m.0) done ∙ ap (took_look c.args.hand.now.me.0) (ap₂ (λ (a b : ℕ). a - b) c.next.ensures.next (sym c.args.self.now.first))

pub returns-clause-out : goal.returns-clause-out
returns-clause-out c = let ticket : ℕ = c.next.result - c.args.self.now.from in
    let done = c.end_take.ensures.has_taken ∙ ap (λ (m : At). (has_taken m.0 ticket, rest m.1)) c.in-Some.ensures.takes in
    ap (λ (m : At). m.1) done

pub returns-clause-stands : goal.returns-clause-stands
returns-clause-stands c = for-on c.args.field.now (board_window c.args.self.now) c.requires.can.lent c.args.book.now c.settle_by.new.book c.requires.stands c.settle_by.ensures.same c.settle_by.ensures.stands
