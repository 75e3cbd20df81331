-- those so far are noted
use Rattle.std.proofs.Common.{◌≡◌, drop}
use Rattle.std.specs.List.{flat_map}
use Rattle.hex_geometry.specs.Neighbourhood.{neighbours_of}
use Rattle.cell_world.specs.Grid.{world_of}
use Rattle.spec_record.specs.Inner.Moves.{fallen, fallen_at}
use Rattle.spec_record.specs.Inner.Sightings.{all_sighted, sightings_of}
use Rattle.spec_record.specs.Reads.{ant_and_food, load_and_food}
use Rattle.spec_record.specs.Trail.{trail_world}
use Rattle.spec_record.proofs.moves.note_fallen.Given as goal

abbrev pub invariant-loop-r : goal.invariant-loop-r
invariant-loop-r l =
    let cells = (world_of l.base).cells in
    let last = (trail_world l.trail).cells in
    let left = flat_map (fallen_at cells last l.fn.step.from l.fn.step.to) (drop l.r-index (neighbours_of l.fn.step.to)) in
    record {
      reads : all_sighted l.reads.items (sightings_of cells load_and_food left) ≡ all_sighted l.fn.reads.items (sightings_of cells load_and_food (fallen cells last l.fn.step.from l.fn.step.to));
      writes : all_sighted l.writes.items (sightings_of last ant_and_food left) ≡ all_sighted l.fn.writes.items (sightings_of last ant_and_food (fallen cells last l.fn.step.from l.fn.step.to));
    }
