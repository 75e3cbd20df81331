use Rattle.std.proofs.Common.{◌≡◌, length, slice_index, Some, sym, ap, ◌∙◌, subst, arith}
use Rattle.std.proofs.lemmas.Bool.{both_ways}
use Rattle.std.proofs.lemmas.Option.{get_or_from_slice_get}
use Rattle.brain_read.specs.declared.instr.Instr.TheVariants.{Drop}
use Rattle.ant_turn.specs.Renumber.{redirected}
use Rattle.brain_minimise.proofs.Numbers.{IsKeeping, IsKeeping-all, IsKeeping-more, IsKeeping-skip}
use Rattle.brain_minimise.proofs.numbering.kept_instructions.Goals.{then-has_number+in_ok-push, else-has_number}
use Rattle.brain_minimise.proofs.numbering.kept_instructions.Goals as goal

pub loop-state-preserved : goal.loop-state-preserved
loop-state-preserved c =
    let size : c.len.result ≡ length c.loop-state.list.items = omega (arith, c.len.ensures, c.loop-state.list.ok) in
    elim c.if-has_number.branch [
      | then-has_number+in_ok-push w ↦
          rw (w.list-is, w.in_ok-push.ensures.items)
          (IsKeeping-more c.args.brain.now c.args.numbers.now c.args.table.now _ _ _ c.loop-state.invariant (c.has_number.ensures.0 w.if-has_number.true ∙ ap Some size)
          (w.redirect.ensures ∙ ap (redirected (slice_index c.args.table.now)) (sym (get_or_from_slice_get c.args.brain.now c.loop-state.state w.at.result (Drop 0) w.at.ensures.instruction))))
      | else-has_number w ↦
          rw w.list-is
          (IsKeeping-skip c.args.brain.now c.args.numbers.now c.args.table.now _ _ c.requires.rising c.loop-state.invariant
          (λ next. both_ways c.has_number.result w.if-has_number.false (c.has_number.ensures.1 (next ∙ ap Some (sym size)))))
    ]

pub returns : goal.returns
returns c =
    let all : c.loop-state.state ≡ length c.args.brain.now = omega (arith, c.len-state-end.ensures.length, c.loop-state-test.false, c.loop-state.auto.state-end) in
    IsKeeping-all c.args.brain.now c.args.numbers.now c.args.table.now c.loop-state.list.items c.len-state-end.ensures.brain c.requires.each c.requires.table
    (subst (IsKeeping c.args.brain.now c.args.numbers.now c.args.table.now c.loop-state.list.items) all c.loop-state.invariant)
