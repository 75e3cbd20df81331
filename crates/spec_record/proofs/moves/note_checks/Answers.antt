-- the position, its neighbours, and those beyond one by one
use Rattle.std.proofs.Common.{◌<◌, true, false, [], ◌∷◌, replicate, slice_set, refl, subst, sym, ◌∙◌}
use Rattle.hex_geometry.specs.Neighbourhood.{neighbours_of}
use Rattle.hex_geometry.proofs.Beside.{neighbours_of_length}
use Rattle.cell_world.specs.declared.part.Part.TheVariants as part
use Rattle.cell_world.specs.Grid.{world_of}
use Rattle.cell_world.specs.Parts.{only}
use Rattle.ant_turn.proofs.Foes.{neighbours_of-inside}
use Rattle.spec_record.specs.Reads.{whole_ant}
use Rattle.spec_record.specs.Inner.Moves.{beyond}
use Rattle.spec_record.specs.Inner.Near.{AreSeen}
use Rattle.spec_record.proofs.Near.{AreSeen-first, within-at, within-self, within-two}
use Rattle.spec_record.proofs.MoveReads.{seen_from-beside_room, seen_from-own_room, seen_from-parts}
use Rattle.spec_record.proofs.Sighting.{sightings_of-flat_next, sightings_of-flat_room}
use Rattle.spec_record.proofs.moves.note_checks.Goals as goal

pub number_near-requires : goal.number_near-requires
number_near-requires c = within-two c.args.q c.args.p c.requires.beside

pub note_who-requires-clause-near : goal.note_who-requires-clause-near
note_who-requires-clause-near c = within-two c.args.q c.args.q (within-self c.args.q)

pub note_who-requires-clause-seen : goal.note_who-requires-clause-seen
note_who-requires-clause-seen c =
    let own = AreSeen-first c.args.q c.args.p whole_ant ((world_of c.args.base.now).cells c.args.p) (within-two c.args.q c.args.p c.requires.beside) refl in
    subst (AreSeen c.args.q (slice_set (replicate 25 false) c.number_near.result true)) (sym c.requires.alone)
    (subst (λ n. AreSeen c.args.q (slice_set (replicate 25 false) n true) ((c.args.p, whole_ant, (world_of c.args.base.now).cells c.args.p) ∷ [])) (sym c.number_near.ensures.number) own)

pub note_who-requires-clause-room : goal.note_who-requires-clause-room
note_who-requires-clause-room c = seen_from-own_room c.args.list.now.items (world_of c.args.base.now).cells (only part.Who) c.args.p c.args.q 19 c.requires.room

pub note_neighbours-requires-clause-beside : goal.note_neighbours-requires-clause-beside
note_neighbours-requires-clause-beside c = within-self c.args.q

pub note_neighbours-requires-clause-room : goal.note_neighbours-requires-clause-room
note_neighbours-requires-clause-room c =
    rw c.note_who.ensures.noted (seen_from-beside_room c.args.list.now.items (world_of c.args.base.now).cells (only part.Who) c.args.p c.args.q 19 c.requires.room)

pub loop-r-init : goal.loop-r-init
loop-r-init c = record {
  noted = rw (c.note_neighbours.ensures.noted, c.note_who.ensures.noted) (sym (seen_from-parts c.args.list.now.items (world_of c.args.base.now).cells (only part.Who) c.args.p c.args.q));
  seen = c.note_neighbours.ensures.seen;
}

pub note_beyond-requires-clause-inside : goal.note_beyond-requires-clause-inside
note_beyond-requires-clause-inside c = rw c.neighbours-around.ensures (neighbours_of-inside c.loop-r.r-index _ c.requires.inner c.loop-r-test.true)

pub note_beyond-requires-clause-beside : goal.note_beyond-requires-clause-beside
note_beyond-requires-clause-beside c = rw c.neighbours-around.ensures (within-at c.args.q c.loop-r.r-index _ c.loop-r-test.true)

pub note_beyond-requires-clause-room : goal.note_beyond-requires-clause-room
note_beyond-requires-clause-room c =
    let cells = (world_of c.args.base.now).cells in
    rw c.neighbours-around.ensures
    (sightings_of-flat_room c.loop-r.list.items _ cells (only part.Who) (beyond cells c.args.p) (neighbours_of c.args.q) c.loop-r.r-index _ 19 (subst (λ n. c.loop-r.r-index < n) (sym (neighbours_of_length c.args.q)) c.loop-r-test.true) c.loop-r.invariant.noted c.requires.room)

pub loop-r-preserved : goal.loop-r-preserved
loop-r-preserved c =
    let cells = (world_of c.args.base.now).cells in
    record {
      noted = rw (c.note_beyond.ensures.noted, c.neighbours-around.ensures)
          (sym (sightings_of-flat_next c.loop-r.list.items cells (only part.Who) (beyond cells c.args.p) (neighbours_of c.args.q) c.loop-r.r-index _ (subst (λ n. c.loop-r.r-index < n) (sym (neighbours_of_length c.args.q)) c.loop-r-test.true)) ∙ c.loop-r.invariant.noted);
      seen = c.note_beyond.ensures.seen;
    }
