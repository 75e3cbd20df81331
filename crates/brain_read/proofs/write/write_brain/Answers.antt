use Rattle.std.proofs.Common.{subst}
use Rattle.std.specs.List.{AllByRecursion}
use Rattle.std.proofs.lemmas.Result.{on_ok_weaker}
use Rattle.brain_read.specs.Forms.{HasBound}
use Rattle.brain_read.proofs.CanonicalLemmas.{text_again}
use Rattle.brain_read.proofs.write.write_brain.Goals as goal

pub returns-clause-again : goal.returns-clause-again
returns-clause-again g c =
    on_ok_weaker c.push_lines.result (λ bounds. text_again c.args.brain.now c.instructions.ensures.brain (subst (AllByRecursion HasBound) c.instructions.ensures.list bounds)) c.push_lines.ensures.bounds
