use Rattle.std.proofs.Common.{◌≡◌, ◌<◌, length, refl, subst, arith}
use Rattle.std.proofs.lemmas.Bool.{both_ways}
use Rattle.brain_minimise.proofs.Refinement.{IsRefining, IsRefining-classes, IsRefining-finer, IsRefining-parts, IsRefining-stays}
use Rattle.brain_minimise.proofs.classes.refine.Goals.{then-do_alike, else-do_alike}
use Rattle.brain_minimise.proofs.classes.refine.Goals as goal

pub loop-state-preserved : goal.loop-state-preserved
loop-state-preserved c =
    let below : c.loop-state.state < length c.args.brain.now = omega (arith, c.loop-state-test.true, c.loop-state.auto.state-end, c.len-state-end.ensures.length) in
    elim c.if-do_alike.branch [
      | then-do_alike w ↦
          rw (c.in_ok-push.ensures.items, w.heirs-is, w.parted-is, w.class-is)
          (IsRefining-stays c.args.brain.now c.args.classes.now _ _ _ _ _ c.requires c.loop-state.invariant below refl (c.do_alike.ensures.0 w.if-do_alike.true))
      | else-do_alike w ↦
          rw (c.in_ok-push.ensures.items, w.heirs-is, w.parted-is, w.class-is, w.heir-class.ensures.noted)
          (IsRefining-parts c.args.brain.now c.args.classes.now _ _ _ _ _ w.heir-class.result c.requires c.loop-state.invariant below refl
          (λ alike. both_ways c.do_alike.result w.if-do_alike.false (c.do_alike.ensures.1 alike)) w.heir-class.ensures.first)
    ]

pub returns-then-parted-clause-classes : goal.returns-then-parted-clause-classes
returns-then-parted-clause-classes c =
    let all : c.loop-state.state ≡ length c.args.brain.now = omega (arith, c.len-state-end.ensures.length, c.loop-state-test.false, c.loop-state.auto.state-end) in
    IsRefining-classes c.args.brain.now c.args.classes.now c.loop-state.heirs.items c.loop-state.finer.items c.loop-state.parted c.requires
    (subst (IsRefining c.args.brain.now c.args.classes.now c.loop-state.heirs.items c.loop-state.finer.items c.loop-state.parted) all c.loop-state.invariant)

pub returns-then-parted-clause-finer : goal.returns-then-parted-clause-finer
returns-then-parted-clause-finer c =
    let all : c.loop-state.state ≡ length c.args.brain.now = omega (arith, c.len-state-end.ensures.length, c.loop-state-test.false, c.loop-state.auto.state-end) in
    IsRefining-finer c.args.brain.now c.args.classes.now c.loop-state.heirs.items c.loop-state.finer.items c.loop-state.parted c.requires
    (subst (IsRefining c.args.brain.now c.args.classes.now c.loop-state.heirs.items c.loop-state.finer.items c.loop-state.parted) all c.loop-state.invariant) c.if-parted.true
