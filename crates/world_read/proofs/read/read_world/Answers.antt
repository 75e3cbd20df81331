use Rattle.world_read.proofs.AnswersLemmas.{AnswersFault-answered, AnswersValue-answered, IsFaultOr-answered, IsOpeningWorld-answered, OpensAs-answered}
use Rattle.world_read.proofs.read.read_world.Goals as goal

pub returns-clause-opening : goal.returns-clause-opening
returns-clause-opening c = IsOpeningWorld-answered c.args.text.now c.read_text.result c.read_text.ensures

pub returns-clause-world : goal.returns-clause-world
returns-clause-world c = OpensAs-answered c.args.text.now c.read_text.result c.read_text.ensures

pub returns-clause-fault : goal.returns-clause-fault
returns-clause-fault c = IsFaultOr-answered c.args.text.now c.read_text.result c.read_text.ensures

pub returns-clause-every_world : goal.returns-clause-every_world
returns-clause-every_world c = λ world. AnswersValue-answered c.args.text.now c.read_text.result world c.read_text.ensures

pub returns-clause-every_fault : goal.returns-clause-every_fault
returns-clause-every_fault c = λ fault. AnswersFault-answered c.args.text.now c.read_text.result fault c.read_text.ensures
