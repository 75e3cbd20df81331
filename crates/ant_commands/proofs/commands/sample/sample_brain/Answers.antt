-- the instructions are the sample brain's
use Rattle.std.proofs.Common.{◌∙◌}
use Rattle.ant_commands.specs.Sample.{sample_brain}
use Rattle.ant_commands.proofs.commands.sample.sample_brain.Goals as goal

pub returns : goal.returns
unfolding sample_brain
returns c = c.from_list.ensures ∙ c.in_ok-list.ensures.items
