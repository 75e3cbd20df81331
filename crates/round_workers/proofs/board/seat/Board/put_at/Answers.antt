use Rattle.std.proofs.Common.{◌+◌, ap, ◌∙◌}
use Rattle.round_workers.specs.declared.board.view.BoardSlot.TheVariants.{Nothing}
use Rattle.round_workers.proofs.BoardMoves.{At, hand_after, put-done, put-rests, slot-held}
use Rattle.round_workers.proofs.board.seat.Board.put_at.Goals as goal

pub end_put-requires-clause-hand : goal.end_put-requires-clause-hand
end_put-requires-clause-hand c = hand_after _ _ _ c.begin_put-room.ensures.table (ap (λ (m : At). m.0.about) c.begin_put-room.ensures.puts) c.requires.board

pub end_put-requires-clause-putting : goal.end_put-requires-clause-putting
end_put-requires-clause-putting c = ap (λ (m : At). m.0.phase) c.begin_put-room.ensures.puts

pub end_put-requires-clause-out : goal.end_put-requires-clause-out
end_put-requires-clause-out c = slot-held _ _ (c.args.ticket + 1) Nothing _ c.begin_put-room.ensures.puts

pub invariant_of-seat : goal.invariant_of-seat
invariant_of-seat c = record { at_rest = put-rests c.args.seat.now.hand.me _ _ c.args.ticket c.begin_put-room.ensures.puts c.end_put.ensures.has_put c.args.seat.now.at_rest }

pub returns-clause-board : goal.returns-clause-board
returns-clause-board c = record {
  table = c.end_put.ensures.table ∙ (c.begin_put-room.ensures.table ∙ c.requires.board.table);
  knows = ap (λ (m : At). m.0.about) (put-done c.args.seat.now.hand.me _ _ c.args.ticket c.begin_put-room.ensures.puts c.end_put.ensures.has_put) ∙ c.requires.board.knows;
}

pub returns-clause-put : goal.returns-clause-put
returns-clause-put c = ap (λ (m : At). m.0) (put-done c.args.seat.now.hand.me _ _ c.args.ticket c.begin_put-room.ensures.puts c.end_put.ensures.has_put)
