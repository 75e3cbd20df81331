use Rattle.round_workers.proofs.BoardLawLemmas.{boards_say}
use Rattle.round_workers.proofs.laws.boards_say.Goals as goal

pub returns : goal.returns
returns c = boards_say
