use Rattle.std.proofs.Common.{arith}
use Rattle.round_workers.specs.BoardSeats.{basis_of}
use Rattle.round_workers.proofs.BoardStart.{sees-each-once}
use Rattle.round_workers.proofs.board.seat.Board.see_each_once_step.Goals as goal

pub load-requires : goal.load-requires
load-requires c = let wide = c.args.self.now.words in (c.requires.table, omega arith, sees-each-once (basis_of c.args.self.now) _ _ _)
