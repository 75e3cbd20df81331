use Rattle.std.proofs.Common.{◌≤◌}
use Rattle.std.specs.List.{AllByRecursion}
use Rattle.cell_world.specs.declared.ant.PlacedAnt.{PlacedAnt}
use Rattle.match_save.specs.Saved.{living}
use Rattle.match_save.proofs.saves.rests_are_short.Given as goal

-- the ants of the ids so far rest for at most 255 turns
abbrev pub invariant-loop-id : goal.invariant-loop-id
invariant-loop-id l = AllByRecursion (λ (it : PlacedAnt). it.ant.resting ≤ 255) (living l.world l.id)
