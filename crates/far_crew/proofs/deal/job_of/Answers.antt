use Rattle.std.proofs.Common.{refl}
use Rattle.far_crew.proofs.JobLemmas.{part-looks}
use Rattle.far_crew.proofs.deal.job_of.Goals as goal

pub in_room-requires-clause-turns : goal.in_room-requires-clause-turns
in_room-requires-clause-turns c =
    part-looks c.args.field.now.world c.args.turns.now _ c.args.piece.first c.args.piece.last c.requires.turns c.requires.forwards c.requires.within refl refl refl
