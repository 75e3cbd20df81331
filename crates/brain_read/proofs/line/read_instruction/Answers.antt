use Rattle.brain_read.proofs.InstructionLemmas as lemmas
use Rattle.brain_read.proofs.line.read_instruction.Goals as goal

pub returns-clause-spelled : goal.returns-clause-spelled
returns-clause-spelled c = lemmas.spelled c.args.tokens.now c.instruction.result c.instruction.ensures.step

pub returns-clause-every_instruction : goal.returns-clause-every_instruction
returns-clause-every_instruction c = lemmas.every_instruction c.args.tokens.now c.instruction.result c.instruction.ensures.step

pub returns-clause-refused : goal.returns-clause-refused
returns-clause-refused c = lemmas.refused c.args.tokens.now c.instruction.result c.instruction.ensures.step
