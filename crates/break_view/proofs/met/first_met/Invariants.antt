use Rattle.cell_world.specs.Grid.{world_of}
use Rattle.break_view.proofs.MetLemmas.{IsSeen}
use Rattle.break_view.proofs.met.first_met.Given as goal

-- none of the breaks so far holds
abbrev pub invariant-loop-item : goal.invariant-loop-item
invariant-loop-item l = IsSeen l.items l.item-index l.number (world_of l.world) l.round l.id
