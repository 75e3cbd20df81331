use Rattle.match_save.proofs.AdvancedTexts as lemmas
use Rattle.match_save.proofs.laws.advanced_saves_go_on.Goals as goal

pub returns : goal.returns
returns c = lemmas.advanced_saves_go_on
