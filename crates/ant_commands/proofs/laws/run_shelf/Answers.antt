use Rattle.ant_commands.proofs.RunPromises.{run_shelf}
use Rattle.ant_commands.proofs.laws.run_shelf.Goals as goal

pub returns : goal.returns
returns c = run_shelf
