use Rattle.std.proofs.Common.{arith}
use Rattle.round_workers.specs.BoardSeats.{basis_of}
use Rattle.round_workers.proofs.BoardBook.{takes-book}
use Rattle.round_workers.proofs.board.seat.Board.take_book_step.Goals as goal

pub compare_exchange-requires : goal.compare_exchange-requires
compare_exchange-requires c = let wide = c.args.self.now.words in let me = c.args.hand.now.me in (
  c.requires.hand.table,
  omega arith,
  takes-book (basis_of c.args.self.now) _ _ me.0 c.requires.hand.knows me.1 c.requires.opened c.requires.free,
)
