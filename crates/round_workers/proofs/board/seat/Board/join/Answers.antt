use Rattle.round_workers.specs.BoardSeats.{known}
use Rattle.round_workers.proofs.BoardStart.{drew-apart}
use Rattle.round_workers.proofs.board.seat.Board.join.Goals as goal

pub returns-clause-apart : goal.returns-clause-apart
returns-clause-apart c = drew-apart (known c.args.seat.now) (known c.args.other) _ _ c.join_step.ensures.joined c.see_each_once_step.ensures.once
