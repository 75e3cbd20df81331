use Rattle.std.proofs.Common.{rules}
use Rattle.round_book.proofs.WorkspaceLemmas.{AreMarked-none}
use Rattle.round_book.proofs.workspace.Workspace.over.Goals as goal

pub returns : goal.returns
returns c = record {
  same = search rules;
  marks = AreMarked-none c.args.world.now c.in_ok-vec.field-0.items c.cell_count.result (c.in_ok-vec.ensures.items_if_clones_equal (search rules)) c.cell_count.ensures;
  none_written = search rules;
  no_verdicts = search rules;
}
