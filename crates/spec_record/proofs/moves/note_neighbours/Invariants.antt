-- those so far are noted
use Rattle.std.proofs.Common.{◌≡◌, drop}
use Rattle.hex_geometry.specs.Neighbourhood.{neighbours_of}
use Rattle.cell_world.specs.declared.part.Part.TheVariants as part
use Rattle.cell_world.specs.Grid.{world_of}
use Rattle.cell_world.specs.Parts.{only}
use Rattle.spec_record.specs.Inner.Near.{AreSeen}
use Rattle.spec_record.specs.Inner.Sightings.{all_sighted, sightings_of}
use Rattle.spec_record.proofs.moves.note_neighbours.Given as goal

abbrev pub invariant-loop-s : goal.invariant-loop-s
invariant-loop-s l =
    let cells = (world_of l.base).cells in
    record {
      noted : all_sighted l.list.items (sightings_of cells (only part.Who) (drop l.s-index (neighbours_of l.fn.r))) ≡ all_sighted l.fn.list.items (sightings_of cells (only part.Who) (neighbours_of l.fn.r));
      seen : AreSeen l.fn.q l.seen l.list.items;
    }
