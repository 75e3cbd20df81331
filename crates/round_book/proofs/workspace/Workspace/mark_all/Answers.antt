use Rattle.std.proofs.Common.{◌∙◌, ap, arith}
use Rattle.round_book.specs.declared.workspace.Workspace.{Workspace}
use Rattle.round_book.proofs.MarkLemmas.{Marking-end, Marking-step}
use Rattle.round_book.proofs.workspace.Workspace.mark_all.Goals as goal

pub loop-at-preserved : goal.loop-at-preserved
loop-at-preserved c = record {
  rest = c.mark.ensures.rest ∙ ap (λ (w : Workspace). record w { marked = c.mark.new.self.marked; written = c.mark.new.self.written }) c.loop-at.invariant.rest;
  marks = c.mark.ensures.marks;
  marking = Marking-step c.args.self.now.written.items c.args.writes.now c.loop-at.self.written.items c.loop-at.at-index _ c.mark.new.self.written.items c.loop-at-test.true c.mark.ensures.written c.loop-at.invariant.marking;
  capacity = c.mark.ensures.capacity ∙ c.loop-at.invariant.capacity;
  count = omega (arith, c.mark.ensures.length, c.loop-at.invariant.count);
}

pub returns-clause-written : goal.returns-clause-written
returns-clause-written c =
    Marking-end c.args.self.now.written.items c.args.writes.now c.loop-at.self.written.items c.loop-at.at-index (omega (arith, c.loop-at-test.false)) c.loop-at.invariant.marking
