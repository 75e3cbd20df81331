use Rattle.round_book.proofs.CountLemmas.{counts-add_up}
use Rattle.round_book.proofs.laws.counts_add_up.Goals as goal

pub returns : goal.returns
returns c = counts-add_up
