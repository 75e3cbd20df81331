use Rattle.match_save.proofs.SaveVerdicts.{every_verdict}
use Rattle.match_save.proofs.laws.every_text_has_one_verdict.Goals as goal

pub returns : goal.returns
returns c = every_verdict
