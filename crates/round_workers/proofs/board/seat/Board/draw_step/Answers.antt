use Rattle.std.proofs.Common.{arith}
use Rattle.round_workers.proofs.BoardTotalLemmas.{none-late}
use Rattle.round_workers.proofs.BoardTickets.{draws}
use Rattle.round_workers.specs.BoardRule.{turns_of}
use Rattle.round_workers.specs.BoardSeats.{basis_of}
use Rattle.round_workers.proofs.board.seat.Board.draw_step.Goals as goal

pub fetch_add-requires : goal.fetch_add-requires
fetch_add-requires c = let board = c.args.self.now in let wide = board.words in (
  c.requires.hand.table,
  omega arith,
  draws (basis_of board) _ _ c.args.hand.now.me c.requires.hand.knows (none-late (turns_of (basis_of board)) _ c.requires.early),
)
