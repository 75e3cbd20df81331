use Rattle.std.proofs.Common.{ℕ, ◌<◌, List, [], ◌∷◌, ◌++◌, length, take, sym, ◌∙◌, ap, subst}
use Rattle.std.proofs.lemmas.List.{take_more}
use Rattle.std.proofs.lemmas.Option.{get_or_from_slice_get}
use Rattle.std.specs.List.{AllByRecursion}
use Rattle.list_lemmas.proofs.AllElements.{AllByRecursion-push}
use Rattle.brain_read.specs.Forms.{HasBound}
use Rattle.brain_read.specs.declared.instr.Instr.{Instr}
use Rattle.match_save.proofs.saves.bounds_are_short.Goals as goal

pub loop-state-preserved : goal.loop-state-preserved
loop-state-preserved c =
    let list : List Instr = c.args.brain.now in
    let i : ℕ = c.loop-state.state in
    let below : i < length list = subst (λ (n : ℕ). i < n) c.len-state-end.ensures.length c.loop-state-test.true in
    let read = get_or_from_slice_get list i c.at.result c.at.result c.at.ensures.instruction in
    subst (AllByRecursion HasBound) (sym (take_more list i c.at.result below ∙ ap (λ (it : Instr). take i list ++ it ∷ []) read))
    (AllByRecursion-push HasBound (take i list) c.at.result c.loop-state.invariant c.bound_is_short.ensures)
