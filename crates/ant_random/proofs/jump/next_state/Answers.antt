use Rattle.ant_random.proofs.JumpLemmas.{stepped_is}
use Rattle.ant_random.proofs.jump.next_state.Goals as goal

pub returns : goal.returns
returns c = stepped_is c.args.state
