use Rattle.round_book.specs.declared.workspace.Workspace.{Workspace}
use Rattle.round_book.proofs.WorkspaceLemmas.{AreMarked-same}
use Rattle.round_book.proofs.workspace.Workspace.write.Goals as goal

pub returns-clause-marks : goal.returns-clause-marks
returns-clause-marks c =
    AreMarked-same c.mark_all.new.self.world c.set_writes.new.world c.mark_all.new.self.marked.items c.mark_all.new.self.written.items _ c.set_writes.ensures c.mark_all.ensures.marks
