use Rattle.std.proofs.Common.{slice_index, refl, arith}
use Rattle.brain_same.specs.Inner.Classes.IsJoined.{WereTwo, WereOne}
use Rattle.brain_same.proofs.ClassesLemmas.{AreJoined-first, AreJoined-second}
use Rattle.brain_same.proofs.classes.join.Goals as goal

pub returns-then-one-other : goal.returns-then-one-other
returns-then-one-other c =
    let old = c.args.classes.now in
    rw c.rename.ensures (WereTwo (AreJoined-second old c.args.a c.args.b (slice_index old c.args.b) (slice_index old c.args.a) c.if-one-other.true c.requires.a c.requires.b refl refl))

pub returns-then-other-one : goal.returns-then-other-one
returns-then-other-one c =
    let old = c.args.classes.now in
    rw c.rename-then-other-one.ensures (WereTwo (AreJoined-first old c.args.a c.args.b (slice_index old c.args.a) (slice_index old c.args.b) c.if-other-one.true c.requires.a c.requires.b refl refl))

pub returns-else-other-one : goal.returns-else-other-one
returns-else-other-one c = WereOne (omega (arith, c.if-one-other.false, c.if-other-one.false)) refl
