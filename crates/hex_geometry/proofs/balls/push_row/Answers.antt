-- one column more
use Rattle.hex_geometry.proofs.BallRows.{line_more}
use Rattle.hex_geometry.proofs.balls.push_row.Goals as goal
use Rattle.hex_geometry.specs.Inner.BallRows.{line}
use Rattle.std.proofs.Common.{add-one, ◌∙◌, sym}
use Rattle.std.proofs.lemmas.List.{append-nil}

pub loop-column-init : goal.loop-column-init
unfolding line
loop-column-init c = sym (append-nil c.args.found.now.items)

pub loop-column-preserved : goal.loop-column-preserved
loop-column-preserved c = rw (add-one c.loop-column.column) (c.in_ok-push.ensures.items ∙ line_more _ _ _ _ _ c.loop-column.invariant)
