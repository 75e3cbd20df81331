use Rattle.std.proofs.Common.{◌++◌, ap, ◌∙◌}
use Rattle.std.specs.Option.{option_to_list}
use Rattle.ant_asm.proofs.Walks.{leave-good, leave-step}
use Rattle.ant_asm.proofs.walk.Walk.leave.Goals as goal

pub returns-clause-good : goal.returns-clause-good
returns-clause-good c = leave-good c.args.self.now c.requires.good c.requires.end c.pop.new.self c.in-Some.level (c.pop.ensures.items ∙ ap (λ (o : _). c.pop.new.self.items ++ option_to_list o) c.in-Some.is)

pub returns-clause-step : goal.returns-clause-step
returns-clause-step c = leave-step c.args.self.now c.requires.good c.requires.end c.pop.new.self c.in-Some.level (c.pop.ensures.items ∙ ap (λ (o : _). c.pop.new.self.items ++ option_to_list o) c.in-Some.is)
