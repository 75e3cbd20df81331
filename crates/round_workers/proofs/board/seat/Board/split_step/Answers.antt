use Rattle.std.proofs.Common.{arith}
use Rattle.round_workers.specs.BoardSeats.{basis_of}
use Rattle.round_workers.proofs.BoardStart.{splits}
use Rattle.round_workers.proofs.board.seat.Board.split_step.Goals as goal

pub split_seat-requires : goal.split_seat-requires
split_seat-requires c = let wide = c.args.self.now.words in (
  c.requires.hand.table,
  omega arith,
  splits (basis_of c.args.self.now) _ _ c.requires.hand.knows c.requires.first c.requires.few,
)
