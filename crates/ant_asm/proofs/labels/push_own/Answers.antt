use Rattle.std.proofs.Common.{ℕ, ◌+◌, refl, ap, ◌∙◌, arith}
use Rattle.std.specs.Prelude.{◌==◌, if◌then◌else◌}
use Rattle.std.proofs.lemmas.Result.{err_from_is_err_and}
use Rattle.ant_asm.specs.Labels.{labels_text}
use Rattle.ant_asm.specs.Inner.Outlines.{label_of, line_size}
use Rattle.ant_asm.specs.Inner.Ways.{steps_of}
use Rattle.ant_asm.proofs.LabelSteps.{AtBody, body-size, next-ends, next-few, own-step, told-start, use-below}
use Rattle.ant_asm.proofs.LabelWalk.{told-front, told-more}
use Rattle.ant_asm.proofs.labels.push_own.Goals as goal

pub overflow_add-end : goal.overflow_add-end
overflow_add-end g c =
    let a : AtBody c.args.bodies.now c.args.number c.index-bodies-number.result = record { good = c.requires.good; known = c.requires.known; is = c.index-bodies-number.is } in
    let size = body-size a c.args.base c.requires.fits in let fits = c.requires.fits in omega (arith, size, fits)

pub loop-line-init : goal.loop-line-init
loop-line-init g c =
    let a : AtBody c.args.bodies.now c.args.number c.index-bodies-number.result = record { good = c.requires.good; known = c.requires.known; is = c.index-bodies-number.is } in
    told-start a _ c.args.base c.deref-line-items.result.now _ c.deref-line-items.ensures.value

pub size_of-at-requires : goal.size_of-at-requires
size_of-at-requires g c =
    let a : AtBody c.args.bodies.now c.args.number c.index-bodies-number.result = record { good = c.requires.good; known = c.requires.known; is = c.index-bodies-number.is } in
    use-below a c.deref-line-items.result.now c.deref-line-items.ensures.value c.loop-line.line-index c.line-item.result c.loop-line-test.true c.line-item.is

pub overflow_add-at : goal.overflow_add-at
overflow_add-at g c =
    let a : AtBody c.args.bodies.now c.args.number c.index-bodies-number.result = record { good = c.requires.good; known = c.requires.known; is = c.index-bodies-number.is } in
    let few = next-few a c.deref-line-items.result.now c.deref-line-items.ensures.value c.loop-line.line-index c.line-item.result c.loop-line-test.true c.line-item.is
    c.loop-line.at _ c.loop-line.invariant.ends c.requires.fits c.size_of-at.result c.size_of-at.ensures in omega (arith, few)

pub returns-in_err-push_label : goal.returns-in_err-push_label
returns-in_err-push_label g c =
    let a : AtBody c.args.bodies.now c.args.number c.index-bodies-number.result = record { good = c.requires.good; known = c.requires.known; is = c.index-bodies-number.is } in
    let p = err_from_is_err_and c.from_residual.result c.from_residual.ensures.1 in
    rw p.1
    (told-front _ _ (labels_text (label_of c.line-item.result c.state_from.result (steps_of c.args.way.now))) _ _ _ _ _ _ _ c.loop-line.invariant c.in_err-push_label.ensures
    (own-step a c.deref-line-items.result.now c.deref-line-items.ensures.value c.loop-line.line-index c.line-item.result c.loop-line-test.true c.line-item.is
    c.loop-line.at _ c.loop-line.invariant.ends c.requires.fits (line_size c.args.bodies.now c.line-item.result) refl c.args.after (steps_of c.args.way.now) c.state_from.result
    (c.state_from.ensures ∙ ap (λ (n : ℕ). if c.loop-line.at == c.args.base + n then c.args.after else c.loop-line.at) (body-size a c.args.base c.requires.fits))))

pub loop-line-preserved : goal.loop-line-preserved
loop-line-preserved g c =
    let a : AtBody c.args.bodies.now c.args.number c.index-bodies-number.result = record { good = c.requires.good; known = c.requires.known; is = c.index-bodies-number.is } in
    told-more _ _ (labels_text (label_of c.line-item.result c.state_from.result (steps_of c.args.way.now))) _ _ _ _ _ _ _ _ c.loop-line.invariant c.in_ok-push_label.ensures
    (own-step a c.deref-line-items.result.now c.deref-line-items.ensures.value c.loop-line.line-index c.line-item.result c.loop-line-test.true c.line-item.is
    c.loop-line.at _ c.loop-line.invariant.ends c.requires.fits c.size_of-at.result c.size_of-at.ensures c.args.after (steps_of c.args.way.now) c.state_from.result
    (c.state_from.ensures ∙ ap (λ (n : ℕ). if c.loop-line.at == c.args.base + n then c.args.after else c.loop-line.at) (body-size a c.args.base c.requires.fits)))
    (next-ends a c.deref-line-items.result.now c.deref-line-items.ensures.value c.loop-line.line-index c.line-item.result c.loop-line-test.true c.line-item.is
    c.loop-line.at _ c.loop-line.invariant.ends c.requires.fits c.size_of-at.result c.size_of-at.ensures)
