-- the line of the seed, and then the dump
use Rattle.ant_base.proofs.Pushes.{pushed_then}
use Rattle.ant_commands.specs.Outputs.{show_output}
use Rattle.ant_commands.proofs.commands.show.push_show.Goals as goal

pub returns : goal.returns
unfolding show_output
returns g c = pushed_then _ _ _ _ _ c.push_dump.result c.in_ok-push_seed.ensures c.push_dump.ensures
