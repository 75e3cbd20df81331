use Rattle.round_workers.proofs.BoardLawLemmas.{board_steps_are_events}
use Rattle.round_workers.proofs.laws.board_steps_are_events.Goals as goal

pub returns : goal.returns
returns c = board_steps_are_events
