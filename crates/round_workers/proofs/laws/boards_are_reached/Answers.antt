use Rattle.round_workers.proofs.BoardWays.{boards_are_reached}
use Rattle.round_workers.proofs.laws.boards_are_reached.Goals as goal

pub returns : goal.returns
returns c = boards_are_reached
