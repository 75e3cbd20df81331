use Rattle.match_save.proofs.TextLength.{saves_are_short}
use Rattle.match_save.proofs.laws.saves_are_short.Goals as goal

pub returns : goal.returns
returns c = saves_are_short
