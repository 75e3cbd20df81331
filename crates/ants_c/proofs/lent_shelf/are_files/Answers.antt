-- a name or a byte is left, and no size
use Rattle.std.proofs.Common.{sym, ◌∙◌, arith, length}
use Rattle.ants_c.proofs.GivenLemmas.{none_left, some_left}
use Rattle.ants_c.proofs.lent_shelf.are_files.Goals as goal
use Rattle.ants_c.proofs.lent_shelf.are_files.Goals.{then-not-is_empty-via-then-not-is_empty, then-not-is_empty-via-else-not-is_empty+then-not-is_empty-2}

pub returns-then-not-is_empty-clause-none : goal.returns-then-not-is_empty-clause-none
returns-then-not-is_empty-clause-none c = λ no are.
    let end = c.loop-size-test.false in
    let none = none_left c.loop-size.lines.now c.loop-size.bytes.now c.args.sizes.now c.loop-size.size-index (omega (arith, end)) (c.loop-size.invariant.left are) in
    elim c.then-not-is_empty.branch [
      | then-not-is_empty-via-then-not-is_empty w ↦ some_left (length c.loop-size.lines.now) (sym c.is_empty-2.ensures ∙ w.if-not-is_empty.true) none.0
      | then-not-is_empty-via-else-not-is_empty+then-not-is_empty-2 w ↦ some_left (length c.loop-size.bytes.now) (sym w.is_empty-else-not-is_empty.ensures ∙ w.if-not-is_empty-2.true) none.1
    ]
