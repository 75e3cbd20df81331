use Rattle.cell_world.specs.Grid.{world_of}
use Rattle.round_book.proofs.MarkLemmas.{unwritten-agree}
use Rattle.round_book.proofs.workspace.Workspace.first_change.Goals as goal

pub returns-then-none_marked : goal.returns-then-none_marked
returns-then-none_marked c =
    unwritten-agree c.args.self.now.written.items (world_of c.args.self.now.world).cells c.args.reads.now c.requires.unwritten (c.none_marked.ensures c.if-none_marked.true)
