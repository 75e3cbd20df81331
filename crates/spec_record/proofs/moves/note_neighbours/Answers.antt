-- one neighbour more
use Rattle.std.proofs.Common.{◌<◌, subst, sym}
use Rattle.hex_geometry.specs.Neighbourhood.{neighbours_of}
use Rattle.hex_geometry.proofs.Beside.{neighbours_of_length}
use Rattle.cell_world.specs.declared.part.Part.TheVariants as part
use Rattle.cell_world.specs.Grid.{world_of}
use Rattle.cell_world.specs.Parts.{only}
use Rattle.ant_turn.proofs.Foes.{neighbours_of-inside}
use Rattle.spec_record.proofs.Near.{within-at_two}
use Rattle.spec_record.proofs.Sighting.{sightings_of-step_room}
use Rattle.spec_record.proofs.moves.note_neighbours.Goals as goal

pub note_who-requires-clause-near : goal.note_who-requires-clause-near
note_who-requires-clause-near c = rw c.neighbours-around.ensures (within-at_two c.args.q c.args.r c.loop-s.s-index _ c.requires.beside c.loop-s-test.true)

pub note_who-requires-clause-inside : goal.note_who-requires-clause-inside
note_who-requires-clause-inside c = rw c.neighbours-around.ensures (neighbours_of-inside c.loop-s.s-index _ c.requires.inner c.loop-s-test.true)

pub note_who-requires-clause-room : goal.note_who-requires-clause-room
note_who-requires-clause-room c =
    rw c.neighbours-around.ensures
    (sightings_of-step_room c.loop-s.list.items _ (world_of c.args.base.now).cells (only part.Who) (neighbours_of c.args.r) c.loop-s.s-index _ 19 (subst (λ n. c.loop-s.s-index < n) (sym (neighbours_of_length c.args.r)) c.loop-s-test.true) c.loop-s.invariant.noted c.requires.room)
