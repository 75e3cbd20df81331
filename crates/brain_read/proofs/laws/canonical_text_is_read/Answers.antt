use Rattle.brain_read.proofs.CanonicalLemmas.{text_again}
use Rattle.brain_read.proofs.laws.canonical_text_is_read.Goals as goal

pub returns : goal.returns
returns c = text_again
