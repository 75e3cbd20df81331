use Rattle.std.proofs.Common.{sym, ◌∙◌}
use Rattle.cell_world.specs.Grid.{world_of}
use Rattle.round_book.proofs.MarkLemmas.{Changes-found, Changes-not_found, Comparing-end, Comparing-item, Comparing-step}
use Rattle.round_book.proofs.workspace.Workspace.first_difference.Goals as goal

pub change-change-requires-clause-unwritten : goal.change-change-requires-clause-unwritten
change-change-requires-clause-unwritten c =
    Comparing-item c.args.self.now.written.items (world_of c.args.self.now.world).cells c.args.reads.now c.loop-read.read-index _ c.loop-read-test.true c.loop-read.invariant

pub returns-then-is_some : goal.returns-then-is_some
returns-then-is_some c =
    Changes-found c.args.reads.now (world_of c.args.self.now.world).cells c.loop-read.read-index _ c.change-change.result c.loop-read-test.true (sym c.is_some.ensures ∙ c.if-is_some.true) c.change-change.ensures

pub loop-read-preserved : goal.loop-read-preserved
loop-read-preserved c =
    Comparing-step c.args.self.now.written.items (world_of c.args.self.now.world).cells c.args.reads.now c.loop-read.read-index _ c.loop-read-test.true
    (Changes-not_found _ (world_of c.args.self.now.world).cells c.change-change.result (sym c.is_some.ensures ∙ c.if-is_some.false) c.change-change.ensures)
    c.loop-read.invariant

pub returns : goal.returns
returns c = Comparing-end c.args.self.now.written.items (world_of c.args.self.now.world).cells c.args.reads.now c.loop-read.read-index c.loop-read-test.false c.loop-read.invariant
