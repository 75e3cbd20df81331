use Rattle.round_workers.specs.BoardSeats.{known}
use Rattle.round_workers.proofs.BoardSeatLists.{worker-new}
use Rattle.round_workers.proofs.board.crew.worker.Goals as goal

pub invariant_of-result : goal.invariant_of-result
invariant_of-result c = record { works = worker-new (known c.args.seat) _ c.requires.other c.requires.alone c.requires.free c.requires.drew_none c.requires.put_none c.requires.bare }
