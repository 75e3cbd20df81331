use Rattle.std.proofs.Common.{sym, ap, subst}
use Rattle.round_workers.specs.BoardSeats.{known, board_window}
use Rattle.round_workers.specs.BoardView.{window_about}
use Rattle.round_workers.specs.BoardWorker.{HasServed, turns_in}
use Rattle.round_workers.proofs.BoardWorkers.{fewer, put-drawn}
use Rattle.round_workers.proofs.board.worker.Worker.work.Goals as goal

pub stream-smaller : goal.stream-smaller
stream-smaller g c = fewer (turns_in (board_window c.args.board.now)) (known c.stream.self.seat) (known c.serve.new.seat) _ c.serve.ensures.worker
    (subst (HasServed (turns_in (board_window c.args.board.now)) (known c.stream.self.seat) (known c.serve.new.seat)) c.stream-test.true c.serve.ensures.served)

pub returns-clause-put : goal.returns-clause-put
returns-clause-put g c k h = put-drawn (known c.serve.new.seat) _ (turns_in (board_window c.args.board.now)) k (ap (λ z. turns_in (window_about z)) (sym c.serve.ensures.board.knows)) c.serve.ensures.worker h
