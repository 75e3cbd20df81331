use Rattle.spec_record.proofs.Flips.{turn-drew}
use Rattle.spec_record.proofs.look_laws.turns_draw_at_flips.Goals as goal

pub returns : goal.returns
returns c = turn-drew
