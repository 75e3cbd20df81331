use Rattle.std.proofs.Common.{◌+◌, sym, ap}
use Rattle.round_workers.specs.declared.board.view.BoardSlot.TheVariants.{Nothing, Spare}
use Rattle.round_workers.specs.Inner.BoardPlaces.{look_room}
use Rattle.round_workers.proofs.BoardMoves.{lay-in, slot-held, some-there, swapped}
use Rattle.round_workers.proofs.board.seat.Board.begin_put.Goals as goal

pub exchange-requires-clause-out : goal.exchange-requires-clause-out
exchange-requires-clause-out c = let it = c.put_step.ensures.puts in (Spare it.0, slot-held _ _ (c.args.ticket + 1) (Spare it.0) _ it.1)

pub look_room-requires : goal.look_room-requires
look_room-requires c = let it = c.put_step.ensures.puts in
    some-there _ it.0 (ap look_room (sym (lay-in _ _ (c.args.ticket + 1) (Spare it.0) _ _ _ it.1 c.exchange.ensures.lay)))

pub returns-clause-puts : goal.returns-clause-puts
returns-clause-puts c = let it = c.put_step.ensures.puts in swapped _ _ _ (c.args.ticket + 1) (Spare it.0) Nothing c.args.hand.now.me.1 it.1 c.exchange.ensures.lies
