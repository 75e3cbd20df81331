use Rattle.work_share.proofs.BordersLemmas.{pieces_are_even}
use Rattle.work_share.proofs.pieces_are_even.Goals as goal

pub returns : goal.returns
returns c = pieces_are_even
