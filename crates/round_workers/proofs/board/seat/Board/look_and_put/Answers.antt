use Rattle.std.proofs.Common.{◌≡◌, Some, ◌+◌, arith, sym, ap, ◌∙◌}
use Rattle.round_workers.specs.declared.board.view.BoardSlot.TheVariants.{Nothing}
use Rattle.cell_world.specs.Grid.{world_of}
use Rattle.round_book.specs.Window.{Window, guess_for, look_for}
use Rattle.round_book.proofs.SoloLemmas.{guess_for-le}
use Rattle.round_workers.specs.BoardSeats.{basis_of, board_window}
use Rattle.round_workers.proofs.BoardWorkers.{look-so}
use Rattle.round_workers.proofs.BoardMoves.{At, hand_after, put-done, put-rests, slot-held}
use Rattle.round_workers.proofs.board.seat.Board.look_and_put.Goals as goal

pub look_at-requires-clause-place : goal.look_at-requires-clause-place
look_at-requires-clause-place c =
    let board = c.args.self.now in let few = guess_for-le (board_window board) ((basis_of board).from + c.args.ticket) in let at = c.requires.guess in
    let lasting = board.lasting in let inside = c.requires.ticket in let a = board.first in let b = board.last in omega arith

pub end_put-requires-clause-hand : goal.end_put-requires-clause-hand
end_put-requires-clause-hand c = hand_after _ _ _ c.begin_put-room.ensures.table (ap (λ (m : At). m.0.about) c.begin_put-room.ensures.puts) c.requires.board

pub end_put-requires-clause-putting : goal.end_put-requires-clause-putting
end_put-requires-clause-putting c = ap (λ (m : At). m.0.phase) c.begin_put-room.ensures.puts

pub end_put-requires-clause-out : goal.end_put-requires-clause-out
end_put-requires-clause-out c = slot-held _ _ (c.args.ticket + 1) Nothing _ c.begin_put-room.ensures.puts

pub end_put-requires-clause-look : goal.end_put-requires-clause-look
end_put-requires-clause-look c =
    let board = c.args.self.now in let field = c.args.field.now in let window = board_window board in let lent = c.requires.field in
    let turn : c.turn_of-turn.result ≡ (basis_of board).from + c.args.ticket = c.turn_of-turn.ensures in
    c.look_at.ensures.look ∙ ap Some (look-so window c.turn_of-turn.result c.args.stream.now.place c.args.stream.now.seed field.minds (world_of field.world)
    (ap (λ (w : Window). w.minds) lent.same) c.requires.seed (ap (λ (w : Window). w.base) lent.same) (c.requires.guess ∙ ap (guess_for window) (sym turn)) ∙ ap (look_for window) turn)

pub invariant_of-seat : goal.invariant_of-seat
invariant_of-seat c = record { at_rest = put-rests c.args.seat.now.hand.me _ _ c.args.ticket c.begin_put-room.ensures.puts c.end_put.ensures.has_put c.args.seat.now.at_rest }

pub returns-clause-board : goal.returns-clause-board
returns-clause-board c = record {
  table = c.end_put.ensures.table ∙ (c.begin_put-room.ensures.table ∙ c.requires.board.table);
  knows = ap (λ (m : At). m.0.about) (put-done c.args.seat.now.hand.me _ _ c.args.ticket c.begin_put-room.ensures.puts c.end_put.ensures.has_put) ∙ c.requires.board.knows;
}

pub returns-clause-put : goal.returns-clause-put
returns-clause-put c = ap (λ (m : At). m.0) (put-done c.args.seat.now.hand.me _ _ c.args.ticket c.begin_put-room.ensures.puts c.end_put.ensures.has_put)
