-- the rows so far are open
use Rattle.std.proofs.Common.{ℕ, ◌+◌, ◌-◌, ◌*◌, ◌<◌}
use Rattle.world_gen.proofs.draft.Draft.ball_is_open.Given as goal
use Rattle.world_gen.specs.Inner.Open.{RowIsOpen}

abbrev pub invariant-loop-row : goal.invariant-loop-row
invariant-loop-row l = (i : ℕ) → i < l.row → RowIsOpen l.self.width l.self.height l.self.blocked.items l.centre l.radius (l.centre.y - l.radius + i) (2 * l.radius + 1)
