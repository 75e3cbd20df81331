use Rattle.brain_same.proofs.WayLemmas.{way_leads}
use Rattle.brain_same.proofs.laws.way_leads.Goals as goal

pub returns : goal.returns
returns c = way_leads
