use Rattle.far_crew.proofs.WindowLemmas.{can_look}
use Rattle.far_crew.proofs.deal.prepare_all.Goals as goal

pub job_of-requires-clause-turns : goal.job_of-requires-clause-turns
job_of-requires-clause-turns c = can_look c.args.field.now c.args.turns.now c.requires.turns
