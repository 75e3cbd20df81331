use Rattle.command_words.proofs.WordLaws.{never_both}
use Rattle.command_words.proofs.laws.never_both.Goals as goal

pub returns : goal.returns
returns c = never_both
