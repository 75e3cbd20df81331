use Rattle.std.proofs.Common.{sym, ◌∙◌, subst}
use Rattle.brain_read.specs.Inner.Answered.{Gives}
use Rattle.brain_read.proofs.VerdictLemmas.{settle_of}
use Rattle.brain_read.proofs.read.settle.Goals as goal

pub returns : goal.returns
returns c =
    let some = settle_of c.args.drafts.now (sym c.is_empty.ensures ∙ c.if-is_empty.false) in
    subst (λ judged. Gives (λ list. list.items) c.settle_all.result judged) (sym some) c.settle_all.ensures
