use Rattle.std.proofs.Common.{◌≡◌, ℕ, ◌+◌, ◌<◌, List, [], ◌++◌, length, take, get_or, flat_map, sym, ◌∙◌, ap, subst}
use Rattle.std.proofs.lemmas.List.{flat_map_more, take_more}
use Rattle.std.proofs.lemmas.List.Elements.{All-from_recursion, All-more, recursion_from_All}
use Rattle.std.proofs.lemmas.Result.{err_from_is_err_and}
use Rattle.ant_base.specs.Sink.{PushedAll, PushedFront}
use Rattle.ant_base.proofs.Pushes.{all_then, front_then, front_more}
use Rattle.brain_read.specs.Canonical.{instruction_text}
use Rattle.brain_read.specs.Forms.{HasBound}
use Rattle.brain_read.specs.declared.instr.Instr.{Instr}
use Rattle.brain_read.proofs.CanonicalLemmas.{brain_text-cut}
use Rattle.brain_read.proofs.write.push_lines.Goals as goal

pub returns-in_err-push_line-clause-pushed : goal.returns-in_err-push_line-clause-pushed
returns-in_err-push_line-clause-pushed g c =
    let p = err_from_is_err_and c.from_residual.result c.from_residual.ensures.1 in
    rw p.1
    (subst (PushedFront (g.K.Sink.state c.args.sink.now) (g.K.Sink.state c.push_line.new.sink)) (sym (brain_text-cut c.args.list.now c.loop-instruction.instruction-index _ c.loop-instruction-test.true))
    (front_more _ _ _ _ (front_then _ _ _ _ _ c.loop-instruction.invariant.0 c.in_err-push_line.ensures.pushed)))

-- one line more
lines_more : (list : List Instr) (i : ℕ) (d : Instr) → i < length list → flat_map instruction_text (take i list) ++ instruction_text (get_or list i d) ≡ flat_map instruction_text (take (i + 1) list)
lines_more list i d within = flat_map_more instruction_text [] (take i list) (get_or list i d) ∙ ap (flat_map instruction_text) (sym (take_more list i d within))

pub loop-instruction-preserved : goal.loop-instruction-preserved
loop-instruction-preserved g c = (
  subst (PushedAll (g.K.Sink.state c.args.sink.now) (g.K.Sink.state c.push_line.new.sink)) (lines_more c.args.list.now c.loop-instruction.instruction-index _ c.loop-instruction-test.true)
      (all_then _ _ _ _ _ c.loop-instruction.invariant.0 c.in_ok-push_line.ensures.pushed),
  recursion_from_All HasBound (take (c.loop-instruction.instruction-index + 1) c.args.list.now)
      (All-more HasBound c.args.list.now c.loop-instruction.instruction-index _ c.loop-instruction-test.true
      (All-from_recursion HasBound (take c.loop-instruction.instruction-index c.args.list.now) c.loop-instruction.invariant.1) c.in_ok-push_line.ensures.bound),
)
