use Rattle.std.proofs.Common.{refl}
use Rattle.world_read.specs.Inner.Reading.{plan_of}
use Rattle.world_read.proofs.VerdictLemmas.{IsPlanVerdict-read, plan_of-verdict}
use Rattle.world_read.proofs.laws.every_text_has_one_verdict.Goals as goal

pub returns : goal.returns
returns c = λ text. (plan_of text, IsPlanVerdict-read text (plan_of text) refl, plan_of-verdict text)
