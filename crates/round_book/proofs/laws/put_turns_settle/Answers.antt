use Rattle.round_book.proofs.VerdictLemmas.{put_turns_settle}
use Rattle.round_book.proofs.laws.put_turns_settle.Goals as goal

pub returns : goal.returns
returns c = put_turns_settle
