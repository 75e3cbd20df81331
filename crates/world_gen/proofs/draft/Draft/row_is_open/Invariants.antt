-- the positions so far are open
use Rattle.world_gen.proofs.draft.Draft.row_is_open.Given as goal
use Rattle.world_gen.specs.Inner.Open.{RowIsOpen}

abbrev pub invariant-loop-column : goal.invariant-loop-column
invariant-loop-column l = RowIsOpen l.self.width l.self.height l.self.blocked.items l.centre l.radius l.y l.column
