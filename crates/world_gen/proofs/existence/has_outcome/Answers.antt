use Rattle.world_gen.proofs.HasWorlds.{has_outcome}
use Rattle.world_gen.proofs.existence.has_outcome.Goals as goal

pub returns : goal.returns
returns c = has_outcome
