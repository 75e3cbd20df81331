use Rattle.round_book.proofs.CountLemmas.{Redone-refutes}
use Rattle.round_book.proofs.laws.causes_refute.Goals as goal

pub returns : goal.returns
returns c = Redone-refutes
