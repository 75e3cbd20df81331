use Rattle.std.proofs.Common.{◌+◌, sym, ap, ◌∙◌, Some}
use Rattle.round_book.specs.Window.{look_for}
use Rattle.round_workers.specs.declared.board.view.BoardSlot.TheVariants.{Nothing, OneLook}
use Rattle.round_workers.specs.Inner.BoardPlaces.{look_room}
use Rattle.round_workers.specs.BoardPlays.{look_at_ticket}
use Rattle.round_workers.specs.BoardView.{window_about}
use Rattle.round_workers.proofs.BoardMoves.{At, lay-in, slot-held, some-same, some-there, swapped}
use Rattle.round_workers.proofs.board.seat.Board.begin_take.Goals as goal

pub exchange-requires-clause-out : goal.exchange-requires-clause-out
exchange-requires-clause-out c = (_, slot-held _ _ (c.args.ticket + 1) _ _ (c.take_look_step-found.ensures.tells.full c.if-found-ne-FULL.false))

pub look_room-requires : goal.look_room-requires
look_room-requires c = let hit = c.take_look_step-found.ensures.tells.full c.if-found-ne-FULL.false in
    some-there _ _ (ap look_room (sym (lay-in _ _ (c.args.ticket + 1) (OneLook (Some (look_at_ticket c.args.hand.now.me.0 c.args.ticket))) _ _ _ hit c.exchange.ensures.lay)))

pub returns-then-found-ne-FULL-clause-not_full : goal.returns-then-found-ne-FULL-clause-not_full
returns-then-found-ne-FULL-clause-not_full c =
    let miss = c.take_look_step-found.ensures.tells.other c.if-found-ne-FULL.true in
    record { found = c.take_look_step-found.result; other = c.if-found-ne-FULL.true; tried = ap (λ (m : At). m.0) miss }

pub returns-then-found-ne-FULL-clause-nothing : goal.returns-then-found-ne-FULL-clause-nothing
returns-then-found-ne-FULL-clause-nothing c = ap (λ (m : At). m.1) (c.take_look_step-found.ensures.tells.other c.if-found-ne-FULL.true)

pub returns-clause-look : goal.returns-clause-look
returns-clause-look c = let hit = c.take_look_step-found.ensures.tells.full c.if-found-ne-FULL.false in
    let there = ap look_room (sym (lay-in _ _ (c.args.ticket + 1) (OneLook (Some (look_at_ticket c.args.hand.now.me.0 c.args.ticket))) _ _ _ hit c.exchange.ensures.lay)) in
    some-same _ _ _ c.look_room.ensures there ∙ ap (λ z. Some (look_for (window_about z) ((window_about z).from + c.args.ticket))) c.requires.hand.knows

pub returns-clause-takes : goal.returns-clause-takes
returns-clause-takes c = let hit = c.take_look_step-found.ensures.tells.full c.if-found-ne-FULL.false in
    swapped _ _ _ (c.args.ticket + 1) _ Nothing c.args.hand.now.me.1 hit c.exchange.ensures.lies
