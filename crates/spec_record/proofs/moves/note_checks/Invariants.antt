-- those beyond the first neighbours are noted
use Rattle.std.proofs.Common.{◌≡◌, drop}
use Rattle.std.specs.List.{flat_map}
use Rattle.hex_geometry.specs.Neighbourhood.{neighbours_of}
use Rattle.cell_world.specs.declared.part.Part.TheVariants as part
use Rattle.cell_world.specs.Grid.{world_of}
use Rattle.cell_world.specs.Parts.{only}
use Rattle.spec_record.specs.Inner.Moves.{beyond, seen_from}
use Rattle.spec_record.specs.Inner.Near.{AreSeen}
use Rattle.spec_record.specs.Inner.Sightings.{all_sighted, sightings_of}
use Rattle.spec_record.proofs.moves.note_checks.Given as goal

abbrev pub invariant-loop-r : goal.invariant-loop-r
invariant-loop-r l =
    let cells = (world_of l.base).cells in
    record {
      noted : all_sighted l.list.items (sightings_of cells (only part.Who) (flat_map (beyond cells l.fn.p) (drop l.r-index (neighbours_of l.fn.q))))
          ≡ all_sighted l.fn.list.items (sightings_of cells (only part.Who) (seen_from cells l.fn.p l.fn.q));
      seen : AreSeen l.fn.q l.seen l.list.items;
    }
