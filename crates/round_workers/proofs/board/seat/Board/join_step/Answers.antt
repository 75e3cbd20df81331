use Rattle.std.proofs.Common.{arith}
use Rattle.round_workers.specs.BoardSeats.{basis_of}
use Rattle.round_workers.proofs.BoardStart.{joins}
use Rattle.round_workers.proofs.board.seat.Board.join_step.Goals as goal

pub join_seat-requires : goal.join_seat-requires
join_seat-requires c = let wide = c.args.self.now.words in (
  c.requires.hand.table,
  c.requires.other.table,
  c.requires.bare,
  omega arith,
  joins (basis_of c.args.self.now) _ _ _ _ c.requires.hand.knows c.requires.other.knows c.requires.other_first c.requires.free c.requires.other_rests,
)
