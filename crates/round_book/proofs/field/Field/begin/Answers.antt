use Rattle.std.proofs.Common.{sym, subst}
use Rattle.round_book.specs.Book.{BookValue, FieldValue, StandsOn, lent_for}
use Rattle.round_book.proofs.FieldLemmas.{ok_both, on-begun}
use Rattle.round_book.proofs.field.Field.begin.Goals as goal

pub returns-clause-stands : goal.returns-clause-stands
returns-clause-stands c =
    ok_both c.lend.result
    (λ (book : BookValue) is lent.
    subst (λ (field : FieldValue). StandsOn field book) (sym lent)
    (subst (StandsOn (lent_for c.args.self.now c.args.from c.args.to)) (sym is)
    (on-begun c.args.self.now c.args.from c.args.to c.requires c.lend.ensures.world c.lend.ensures.sound c.lend.ensures.fit)))
    c.lend.ensures.book c.lend.ensures.lent
