use Rattle.std.proofs.Common.{◌≡◌, ◌∙◌, ◌++◌, [], List, ap, ap₂, subst, sym}
use Rattle.std.specs.Borrow.{Bor}
use Rattle.std.proofs.lemmas.Result.{err_from_is_err_and}
use Rattle.ant_base.proofs.Pushes.{front_more}
use Rattle.ant_base.specs.Sink.{PushedFront}
use Rattle.ant_asm.specs.declared.level.Level.{Level}
use Rattle.ant_asm.specs.declared.named.NamedBody.{NamedBody}
use Rattle.ant_asm.specs.declared.walk.Met.TheVariants.{Body}
use Rattle.ant_asm.specs.Labels.{labels_text}
use Rattle.ant_asm.specs.Inner.Outlines.{all_states, main_of, outline_at}
use Rattle.ant_asm.specs.Inner.Walks.{IsStep, IsStepOrEnd, labels_left, met_labels}
use Rattle.ant_asm.specs.Inner.Ways.{steps_of}
use Rattle.ant_asm.proofs.LabelTexts.{labels_text-append}
use Rattle.ant_asm.proofs.LabelWalk.{to_front, to_more, to_none}
use Rattle.ant_asm.proofs.labels.push_labels.Goals as goal

pub returns-in_err-push_met : goal.returns-in_err-push_met
returns-in_err-push_met g c =
    let walk = c.new-walk.result in
    let split : labels_text (all_states (outline_at c.args.bodies.now (main_of c.args.bodies.now)) 0 0 []) ≡ labels_text (met_labels c.args.bodies.now (Body walk.spot) (steps_of c.as_slice.result.now)) ++ labels_text (labels_left walk) =
    ap labels_text (sym c.new-walk.ensures.labels) ∙ labels_text-append (met_labels c.args.bodies.now (Body walk.spot) []) (labels_left walk)
    ∙ ap (λ (l : List Level). labels_text (met_labels c.args.bodies.now (Body walk.spot) (steps_of l)) ++ labels_text (labels_left walk)) (sym (c.as_slice.ensures.value ∙ c.new-walk.ensures.outer)) in
    let p = err_from_is_err_and c.from_residual.result c.from_residual.ensures.1 in
    rw p.1 (subst (PushedFront (g.K.Sink.state c.args.sink.now) (g.K.Sink.state c.push_met.new.sink)) (sym split) (front_more _ _ _ _ c.in_err-push_met.ensures))

pub loop-met-init : goal.loop-met-init
loop-met-init g c =
    let walk = c.new-walk.result in
    let split : labels_text (all_states (outline_at c.args.bodies.now (main_of c.args.bodies.now)) 0 0 []) ≡ labels_text (met_labels c.args.bodies.now (Body walk.spot) (steps_of c.as_slice.result.now)) ++ labels_text (labels_left walk) =
    ap labels_text (sym c.new-walk.ensures.labels) ∙ labels_text-append (met_labels c.args.bodies.now (Body walk.spot) []) (labels_left walk)
    ∙ ap (λ (l : List Level). labels_text (met_labels c.args.bodies.now (Body walk.spot) (steps_of l)) ++ labels_text (labels_left walk)) (sym (c.as_slice.ensures.value ∙ c.new-walk.ensures.outer)) in
    record {
      walk = c.new-walk.ensures.good;
      bodies = c.new-walk.ensures.bodies;
      told = to_more _ _ (labels_text (met_labels c.args.bodies.now (Body walk.spot) (steps_of c.as_slice.result.now))) (labels_text (labels_left walk)) _ _ _ (to_none _ (g.K.Sink.state c.args.sink.now)) c.in_ok-push_met.ensures split;
    }

pub loop-met-preserved : goal.loop-met-preserved
loop-met-preserved g c =
    let old = c.loop-met.walk in
    let new = c.step.new.self in
    let met = c.in-Some.met in
    let it : IsStep old new met = subst (IsStepOrEnd old new) c.in-Some.is c.step.ensures.step in
    let split : labels_text (labels_left old) ≡ labels_text (met_labels c.args.bodies.now met (steps_of c.as_slice-in-Some.result.now)) ++ labels_text (labels_left new) =
    ap labels_text it.labels ∙ labels_text-append (met_labels old.bodies.now met (steps_of new.outer.items)) (labels_left new)
    ∙ ap₂ (λ (b : List NamedBody) (l : List Level). labels_text (met_labels b met (steps_of l)) ++ labels_text (labels_left new)) c.loop-met.invariant.bodies (sym c.as_slice-in-Some.ensures.value) in
    record {
      walk = c.step.ensures.good;
      bodies = ap (λ (b : Bor (List NamedBody)). b.now) c.step.ensures.bodies ∙ c.loop-met.invariant.bodies;
      told = to_more _ _ (labels_text (met_labels c.args.bodies.now met (steps_of c.as_slice-in-Some.result.now))) (labels_text (labels_left new)) _ _ _ c.loop-met.invariant.told c.in_ok-push_met-2.ensures split;
    }

pub returns-in_err-push_met-2 : goal.returns-in_err-push_met-2
returns-in_err-push_met-2 g c =
    let old = c.loop-met.walk in
    let new = c.step.new.self in
    let met = c.in-Some.met in
    let it : IsStep old new met = subst (IsStepOrEnd old new) c.in-Some.is c.step.ensures.step in
    let split : labels_text (labels_left old) ≡ labels_text (met_labels c.args.bodies.now met (steps_of c.as_slice-in-Some.result.now)) ++ labels_text (labels_left new) =
    ap labels_text it.labels ∙ labels_text-append (met_labels old.bodies.now met (steps_of new.outer.items)) (labels_left new)
    ∙ ap₂ (λ (b : List NamedBody) (l : List Level). labels_text (met_labels b met (steps_of l)) ++ labels_text (labels_left new)) c.loop-met.invariant.bodies (sym c.as_slice-in-Some.ensures.value) in
    let p = err_from_is_err_and c.from_residual-in_err-push_met-2.result c.from_residual-in_err-push_met-2.ensures.1 in
    rw p.1 (to_front _ _ (labels_text (met_labels c.args.bodies.now met (steps_of c.as_slice-in-Some.result.now))) (labels_text (labels_left new)) _ _ _ c.loop-met.invariant.told c.in_err-push_met-2.ensures split)
