use Rattle.std.proofs.Common.{sym, ◌∙◌, subst}
use Rattle.std.specs.List.{AllByRecursion}
use Rattle.std.proofs.lemmas.Bool.{false≢true}
use Rattle.std.proofs.lemmas.List.{drop_more}
use Rattle.round_book.specs.Inner.Changes.{IsUnwritten}
use Rattle.round_book.proofs.workspace.Workspace.none_marked.Goals as goal

pub loop-at-preserved : goal.loop-at-preserved
loop-at-preserved c = λ rest.
    c.loop-at.invariant (subst (AllByRecursion (IsUnwritten c.args.self.now.written.items)) (sym (drop_more c.args.reads.now c.loop-at.at-index _ c.loop-at-test.true))
    ((λ held. false≢true (sym c.if-is_marked.false ∙ c.is_marked.ensures.1 held)), rest))
