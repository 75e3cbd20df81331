use Rattle.match_run.proofs.SingleTurnWindows.{single_turn_windows_are_taken}
use Rattle.match_run.proofs.laws.single_turn_windows_are_taken.Goals as goal

pub returns : goal.returns
returns c = single_turn_windows_are_taken
