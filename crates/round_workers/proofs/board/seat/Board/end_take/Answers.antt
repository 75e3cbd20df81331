use Rattle.std.proofs.Common.{◌+◌, ap, ◌∙◌}
use Rattle.atomic_table.specs.Table.{rest}
use Rattle.round_workers.specs.declared.board.view.BoardSlot.TheVariants.{Spare}
use Rattle.round_workers.specs.BoardPlays.{has_taken}
use Rattle.round_workers.proofs.BoardMoves.{At, hand_after, slot-held}
use Rattle.round_workers.proofs.board.seat.Board.end_take.Goals as goal

pub has_taken_step-requires-clause-hand : goal.has_taken_step-requires-clause-hand
has_taken_step-requires-clause-hand c = hand_after _ _ _ c.exchange.ensures.table (ap (λ (m : At). m.0.about) c.exchange.ensures.lies) c.requires.hand

pub has_taken_step-requires-clause-taking : goal.has_taken_step-requires-clause-taking
has_taken_step-requires-clause-taking c = ap (λ (m : At). m.0.phase) c.exchange.ensures.lies ∙ c.requires.taking

pub has_taken_step-requires-clause-spare : goal.has_taken_step-requires-clause-spare
has_taken_step-requires-clause-spare c = (c.args.room, slot-held _ _ (c.args.ticket + 1) (Spare c.args.room) _ c.exchange.ensures.lies)

pub returns-clause-has_taken : goal.returns-clause-has_taken
returns-clause-has_taken c = c.has_taken_step.ensures.has_taken ∙ ap (λ (m : At). (has_taken m.0 c.args.ticket, rest m.1)) c.exchange.ensures.lies
