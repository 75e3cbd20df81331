use Rattle.std.proofs.Common.{rules, ◌<◌, true, [], length, slice_set, sym, ap, ◌∙◌, subst, arith}
use Rattle.std.proofs.lemmas.Option.{get_or_from_slice_get}
use Rattle.brain_read.specs.declared.instr.Instr.TheVariants.{Drop}
use Rattle.brain_minimise.specs.Inner.Seen.{is_seen, with_waiting}
use Rattle.brain_minimise.specs.Inner.Successors.{first_next, last_next}
use Rattle.brain_minimise.proofs.Search.{Explores, Explores-all, Explores-below, Explores-more, Explores-start, first-below, last-below, step-work}
use Rattle.brain_minimise.proofs.reach.reachable.Goals as goal

pub loop-state-init : goal.loop-state-init
loop-state-init c =
    rw (c.in_ok-visit.ensures.waiting, c.in_ok-visit.ensures.seen, c.new-waiting.ensures.items)
    (subst (λ seen. Explores c.args.brain.now (slice_set seen 0 true) (with_waiting [] (is_seen seen 0) 0)) (sym (c.in_ok-seen.ensures.items_if_clones_equal (search rules)))
    (Explores-start c.args.brain.now _ c.len.ensures.length c.len.ensures.brain.some))

pub at-requires : goal.at-requires
at-requires c = Explores-below c.args.brain.now _ _ _ c.in-Some.state c.loop-state.invariant c.in-Some.ensures.items

pub loop-state-smaller : goal.loop-state-smaller
loop-state-smaller c =
    let n = length c.args.brain.now in
    let each = c.loop-state.invariant.each in
    let first = ap (λ (p : _ × _). p.0) c.successors-first.ensures in
    let last = ap (λ (p : _ × _). p.1) c.successors-first.ensures in
    let low : c.successors-first.result.0 < length c.loop-state.seen.items = omega (arith, first, first-below n c.at.result c.at.ensures.sound) in
    let high : c.successors-first.result.1 < length c.loop-state.seen.items = omega (arith, last, last-below n c.at.result c.at.ensures.sound) in
    rw (c.in_ok-visit-3.ensures.waiting, c.in_ok-visit-3.ensures.seen, c.in_ok-visit-2.ensures.waiting, c.in_ok-visit-2.ensures.seen, c.in-Some.ensures.items)
    (step-work c.loop-state.seen.items c.pop.new.self.items c.in-Some.state c.successors-first.result.0 c.successors-first.result.1 low high)

pub loop-state-preserved : goal.loop-state-preserved
loop-state-preserved c =
    let n = length c.args.brain.now in
    let instruction = c.at.result in
    let at = sym (get_or_from_slice_get c.args.brain.now c.in-Some.state instruction (Drop 0) c.at.ensures.instruction) in
    let first = ap (λ (p : _ × _). p.0) c.successors-first.ensures in
    let last = ap (λ (p : _ × _). p.1) c.successors-first.ensures in
    let low : c.successors-first.result.0 < n = omega (arith, first, first-below n instruction c.at.ensures.sound) in
    let high : c.successors-first.result.1 < n = omega (arith, last, last-below n instruction c.at.ensures.sound) in
    rw (c.in_ok-visit-3.ensures.waiting, c.in_ok-visit-3.ensures.seen, c.in_ok-visit-2.ensures.waiting, c.in_ok-visit-2.ensures.seen)
    (Explores-more c.args.brain.now c.loop-state.seen.items c.pop.new.self.items c.in-Some.state c.successors-first.result.0 c.successors-first.result.1
    (subst (Explores c.args.brain.now c.loop-state.seen.items) c.in-Some.ensures.items c.loop-state.invariant) (first ∙ ap first_next at) (last ∙ ap last_next at) low high)

pub returns-clause-seen : goal.returns-clause-seen
returns-clause-seen c = Explores-all c.args.brain.now _ _ (omega (arith, c.in_default.ensures.cases.0, c.loop-state.waiting.ok)) c.loop-state.invariant
