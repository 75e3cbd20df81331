use Rattle.ant_random.proofs.JumpLemmas.{landed_twice}
use Rattle.ant_random.proofs.jump.Jump.twice.Goals as goal

pub returns-clause-twice : goal.returns-clause-twice
returns-clause-twice g c = landed_twice c.args.self.now.times c.args.self.now.plus
