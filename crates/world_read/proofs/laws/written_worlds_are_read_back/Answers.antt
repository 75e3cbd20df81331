use Rattle.world_read.proofs.CanonicalLemmas.{OpensAs-canonical}
use Rattle.world_read.proofs.laws.written_worlds_are_read_back.Goals as goal

pub returns : goal.returns
returns c = OpensAs-canonical
