use Rattle.command_words.proofs.WordLaws.{within_limits}
use Rattle.command_words.proofs.laws.within_limits.Goals as goal

pub returns : goal.returns
returns c = within_limits
