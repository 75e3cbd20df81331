use Rattle.work_share.proofs.BordersLemmas.{pieces_are_the_row}
use Rattle.work_share.proofs.pieces_are_the_row.Goals as goal

pub returns : goal.returns
returns c = pieces_are_the_row
