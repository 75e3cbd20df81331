use Rattle.command_words.proofs.WordLaws.{any_order}
use Rattle.command_words.proofs.laws.any_order.Goals as goal

pub returns : goal.returns
returns c = any_order
