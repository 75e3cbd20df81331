use Rattle.round_book.proofs.SingleTurns.{single_turns_are_taken}
use Rattle.round_book.proofs.laws.single_turns_are_taken.Goals as goal

pub returns : goal.returns
returns c = single_turns_are_taken
