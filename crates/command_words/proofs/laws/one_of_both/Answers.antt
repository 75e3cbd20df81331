use Rattle.command_words.proofs.WordLaws.{one_of_both}
use Rattle.command_words.proofs.laws.one_of_both.Goals as goal

pub returns : goal.returns
returns c = one_of_both
