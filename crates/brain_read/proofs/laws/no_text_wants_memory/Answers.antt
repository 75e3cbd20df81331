use Rattle.brain_read.proofs.MemoryFaults.{no_want}
use Rattle.brain_read.proofs.laws.no_text_wants_memory.Goals as goal

pub returns : goal.returns
returns c = no_want
