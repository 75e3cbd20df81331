use Rattle.std.proofs.Common.{◌∙◌, ◌++◌, [], List, ap, subst, sym}
use Rattle.std.proofs.lemmas.Result.{err_from_is_err_and}
use Rattle.ant_asm.specs.declared.level.Level.{Level}
use Rattle.ant_asm.specs.StateLines.{StateLine, state_lines_text}
use Rattle.ant_asm.specs.Inner.Outlines.{main_of, outline_at, told_lines}
use Rattle.ant_asm.specs.Inner.Walks.{IsStep, IsStepOrEnd, lines_left, met_lines}
use Rattle.ant_asm.specs.Inner.Ways.{steps_of}
use Rattle.ant_asm.proofs.LabelTexts.{state_lines_text-append}
use Rattle.ant_asm.proofs.LabelWalk.{IsToldTo, to_front, to_more, to_none}
use Rattle.ant_asm.proofs.state_lines.push_lines.Goals as goal

pub loop-met-init : goal.loop-met-init
loop-met-init g c =
    let all = state_lines_text (told_lines (outline_at c.args.bodies.now (main_of c.args.bodies.now)) 0 []) in
    let state = g.K.Sink.state c.args.sink.now in
    record {
      walk = c.new-walk.ensures.good;
      told = subst (λ (l : List StateLine). IsToldTo all (state_lines_text l) state state) (sym c.new-walk.ensures.lines) (to_none all state);
    }

pub loop-met-preserved : goal.loop-met-preserved
loop-met-preserved g c =
    let old = c.loop-met.walk in
    let new = c.step.new.self in
    let met = c.in-Some.met in
    let it : IsStep old new met = subst (IsStepOrEnd old new) c.in-Some.is c.step.ensures.step in
    record {
      walk = c.step.ensures.good;
      told = to_more _ (state_lines_text (lines_left old)) (state_lines_text (met_lines met (steps_of c.as_slice.result.now))) (state_lines_text (lines_left new)) _ _ _ c.loop-met.invariant.told c.in_ok-push_met.ensures
          (ap state_lines_text it.lines ∙ state_lines_text-append (met_lines met (steps_of new.outer.items)) (lines_left new)
          ∙ ap (λ (l : List Level). state_lines_text (met_lines met (steps_of l)) ++ state_lines_text (lines_left new)) (sym c.as_slice.ensures.value));
    }

pub returns-in_err-push_met : goal.returns-in_err-push_met
returns-in_err-push_met g c =
    let old = c.loop-met.walk in
    let new = c.step.new.self in
    let met = c.in-Some.met in
    let it : IsStep old new met = subst (IsStepOrEnd old new) c.in-Some.is c.step.ensures.step in
    let p = err_from_is_err_and c.from_residual.result c.from_residual.ensures.1 in
    rw p.1
    (to_front _ (state_lines_text (lines_left old)) (state_lines_text (met_lines met (steps_of c.as_slice.result.now))) (state_lines_text (lines_left new)) _ _ _ c.loop-met.invariant.told c.in_err-push_met.ensures
    (ap state_lines_text it.lines ∙ state_lines_text-append (met_lines met (steps_of new.outer.items)) (lines_left new)
    ∙ ap (λ (l : List Level). state_lines_text (met_lines met (steps_of l)) ++ state_lines_text (lines_left new)) (sym c.as_slice.ensures.value)))
