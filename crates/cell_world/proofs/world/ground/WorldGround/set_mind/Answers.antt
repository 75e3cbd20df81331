-- the ant that was set is read from its body
use Rattle.cell_world.proofs.InsideLemmas.{fields_minded-put}
use Rattle.cell_world.proofs.world.ground.WorldGround.set_mind.Goals as goal

pub invariant_of-self : goal.invariant_of-self
invariant_of-self c = (fields_minded-put c.self.inside c.args.self.now c.args.p c.index_mut-body.result.now c.args.ant 9 c.self.view_is c.self.invariant c.requires c.index_mut-body.ensures.value).kept

pub returns-clause-set : goal.returns-clause-set
returns-clause-set c = (fields_minded-put c.self.inside c.args.self.now c.args.p c.index_mut-body.result.now c.args.ant 9 c.self.view_is c.self.invariant c.requires c.index_mut-body.ensures.value).made

pub returns-clause-valid : goal.returns-clause-valid
returns-clause-valid c = (fields_minded-put c.self.inside c.args.self.now c.args.p c.index_mut-body.result.now c.args.ant 9 c.self.view_is c.self.invariant c.requires c.index_mut-body.ensures.value).kept.world.valid
