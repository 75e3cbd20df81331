use Rattle.ant_commands.proofs.RunPromises.{run_promise}
use Rattle.ant_commands.proofs.laws.run_promise.Goals as goal

pub returns : goal.returns
returns c = run_promise
