use Rattle.world_read.proofs.CanonicalLemmas.{IsWorldText-canonical}
use Rattle.world_read.proofs.laws.canonical_text_is_read_back.Goals as goal

pub returns : goal.returns
returns c = IsWorldText-canonical
