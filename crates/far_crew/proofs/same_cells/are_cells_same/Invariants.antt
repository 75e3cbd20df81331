-- if the rest is the same, all is, and the other way round
use Rattle.std.proofs.Common.{◌≡◌, length}
use Rattle.std.specs.Prelude.{◌↔◌}
use Rattle.std.specs.List.{AllByRecursion}
use Rattle.cell_world.specs.Grid.{world_of}
use Rattle.spec_record.specs.Claims.{seen_cell, seen_place}
use Rattle.far_crew.proofs.same_cells.are_cells_same.Given as goal

abbrev pub invariant-loop-read : goal.invariant-loop-read
invariant-loop-read l = AllByRecursion (λ read. (world_of l.world).cells (seen_place read) ≡ seen_cell read) l.rest ↔ AllByRecursion (λ read. (world_of l.world).cells (seen_place read) ≡ seen_cell read) l.fn.reads

abbrev pub decreases-loop-read : goal.decreases-loop-read
decreases-loop-read l = length l.rest
