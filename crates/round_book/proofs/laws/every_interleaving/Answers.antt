use Rattle.round_book.proofs.MachineLemmas.{IsReached-every}
use Rattle.round_book.proofs.WindowLemmas.{LookIsTurn-window}
use Rattle.round_book.proofs.laws.every_interleaving.Goals as goal

pub returns : goal.returns
returns c = λ window events sound lawful. IsReached-every window events sound (LookIsTurn-window window sound) lawful
