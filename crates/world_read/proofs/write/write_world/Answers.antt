use Rattle.world_read.proofs.OpenedLemmas.{food-begins}
use Rattle.world_read.proofs.write.write_world.Goals as goal

pub invariant_of-layout : goal.invariant_of-layout
invariant_of-layout g c = record { light = food-begins c.args.world.now c.requires }
