use Rattle.std.proofs.Common.{◌+◌, ◌∷◌, ap, ◌∙◌}
use Rattle.atomic_table.specs.Table.{rest}
use Rattle.round_workers.specs.declared.board.view.BoardSlot.TheVariants.{OneLook}
use Rattle.round_workers.specs.BoardPlays.{has_put}
use Rattle.round_workers.proofs.BoardMoves.{At, hand_after, slot-held}
use Rattle.round_workers.proofs.board.seat.Board.end_put.Goals as goal

pub has_put_step-requires-clause-hand : goal.has_put_step-requires-clause-hand
has_put_step-requires-clause-hand c = hand_after _ _ _ c.exchange.ensures.table (ap (λ (m : At). m.0.about) c.exchange.ensures.lies) c.requires.hand

pub has_put_step-requires-clause-putting : goal.has_put_step-requires-clause-putting
has_put_step-requires-clause-putting c = ap (λ (m : At). m.0.phase) c.exchange.ensures.lies ∙ c.requires.putting

pub has_put_step-requires-clause-look : goal.has_put_step-requires-clause-look
has_put_step-requires-clause-look c = slot-held _ _ (c.args.ticket + 1) _ _ (c.exchange.ensures.lies ∙ ap (λ l. (c.args.hand.now.me.0, (c.args.ticket + 1, OneLook l) ∷ rest c.args.hand.now.me.1)) c.requires.look)

pub returns-clause-has_put : goal.returns-clause-has_put
returns-clause-has_put c = c.has_put_step.ensures.has_put ∙ ap (λ (m : At). (has_put m.0 c.args.ticket, rest m.1)) c.exchange.ensures.lies
