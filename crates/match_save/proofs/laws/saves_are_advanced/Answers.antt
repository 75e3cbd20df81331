use Rattle.match_save.proofs.AfterRounds as lemmas
use Rattle.match_save.proofs.laws.saves_are_advanced.Goals as goal

pub returns : goal.returns
returns c = lemmas.saves_are_advanced
