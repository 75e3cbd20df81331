use Rattle.ant_commands.proofs.Headlines.{headline}
use Rattle.ant_commands.proofs.laws.headline.Goals as goal

pub returns : goal.returns
returns c = headline
