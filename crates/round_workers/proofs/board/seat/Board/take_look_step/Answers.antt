use Rattle.std.proofs.Common.{arith}
use Rattle.round_workers.specs.BoardSeats.{basis_of}
use Rattle.round_workers.proofs.BoardLooks.{takes-look}
use Rattle.round_workers.proofs.board.seat.Board.take_look_step.Goals as goal

pub compare_exchange-requires : goal.compare_exchange-requires
compare_exchange-requires c = let wide = c.args.self.now.words in let a = c.args.self.now.first in let b = c.args.self.now.last in let inside = c.requires.ticket in let me = c.args.hand.now.me in (
  c.requires.hand.table,
  omega arith,
  takes-look (basis_of c.args.self.now) _ _ me.0 c.requires.hand.knows c.args.ticket inside me.1 c.requires.rests,
)
