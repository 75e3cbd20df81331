use Rattle.std.proofs.Common.{◌≡◌, ◌<◌, ℕ, List, ◌++◌, append-nil, length, map, sym, ◌∙◌, ap, subst, arith}
use Rattle.std.proofs.lemmas.List.{drop_all}
use Rattle.brain_read.specs.declared.draft.Draft.{Draft}
use Rattle.brain_read.specs.Drafts.{drafted}
use Rattle.brain_read.specs.Grammar.{StatesBelow}
use Rattle.match_save.proofs.SavedBrains.{SettlesOn-more, SettlesOn-stop, length-drafted}
use Rattle.match_save.proofs.judge.settle.Goals as goal

pub returns-in_default : goal.returns-in_default
returns-in_default c = λ all.
    let low : c.loop-draft.draft-index < length c.args.drafts.now = omega arith in
    SettlesOn-stop (length c.args.drafts.now) c.loop-draft.list.items c.args.drafts.now c.loop-draft.draft-index _ c.in_default.field-0 low c.loop-draft.invariant (sym c.in_default.ensures)
    (subst (λ (n : ℕ). StatesBelow n (map drafted c.args.drafts.now)) (length-drafted c.args.drafts.now) all)

pub loop-draft-preserved : goal.loop-draft-preserved
loop-draft-preserved c =
    let low : c.loop-draft.draft-index < length c.args.drafts.now = omega arith in
    SettlesOn-more (length c.args.drafts.now) c.loop-draft.list.items c.push.new.self.items c.args.drafts.now c.loop-draft.draft-index _ c.in-Ok.instruction low c.loop-draft.invariant (sym c.in-Ok.ensures) c.in_ok-push.ensures.items

pub returns : goal.returns
returns c =
    let drafts = c.args.drafts.now in
    let list = c.loop-draft.list.items in
    let are : list ≡ map drafted drafts =
    sym (append-nil list) ∙ ap (λ (l : List Draft). list ++ map drafted l) (sym (drop_all c.loop-draft.draft-index drafts c.loop-draft-test.false)) ∙ c.loop-draft.invariant.are in
    (are, subst (λ (n : ℕ). StatesBelow n (map drafted drafts)) (sym (length-drafted drafts)) (subst (StatesBelow (length drafts)) are c.loop-draft.invariant.below))
