use Rattle.game_reports.proofs.ActLaws.{profiles_add_up}
use Rattle.game_reports.proofs.laws.profiles_add_up.Goals as goal

pub returns : goal.returns
returns c = profiles_add_up
