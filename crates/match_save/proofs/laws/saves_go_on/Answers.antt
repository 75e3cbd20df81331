use Rattle.match_save.proofs.ResumedGames as lemmas
use Rattle.match_save.proofs.laws.saves_go_on.Goals as goal

pub returns : goal.returns
returns c = lemmas.saves_go_on
