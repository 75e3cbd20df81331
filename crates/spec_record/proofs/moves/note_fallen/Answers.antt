-- the killed on the position and on its neighbours, one by one
use Rattle.std.proofs.Common.{◌<◌, subst, sym, ◌∙◌}
use Rattle.hex_geometry.specs.Neighbourhood.{neighbours_of}
use Rattle.hex_geometry.proofs.Beside.{neighbours_of_length}
use Rattle.cell_world.specs.Grid.{world_of}
use Rattle.ant_turn.proofs.Foes.{neighbours_of-inside}
use Rattle.spec_record.specs.Inner.Moves.{fallen_at}
use Rattle.spec_record.specs.Reads.{ant_and_food, load_and_food}
use Rattle.spec_record.specs.Trail.{trail_world}
use Rattle.spec_record.proofs.MoveReads.{fallen-own_room, fallen-parts}
use Rattle.spec_record.proofs.Sighting.{sightings_of-flat_next, sightings_of-flat_room}
use Rattle.spec_record.proofs.moves.note_fallen.Goals as goal

pub note_if_fallen-requires-clause-reads : goal.note_if_fallen-requires-clause-reads
note_if_fallen-requires-clause-reads c =
    let cells = (world_of c.args.base.now).cells in
    fallen-own_room c.args.reads.now.items cells cells (trail_world c.args.trail.now).cells load_and_food c.args.step.from c.args.step.to 19 c.requires.reads

pub note_if_fallen-requires-clause-writes : goal.note_if_fallen-requires-clause-writes
note_if_fallen-requires-clause-writes c =
    let last = (trail_world c.args.trail.now).cells in
    fallen-own_room c.args.writes.now.items last (world_of c.args.base.now).cells last ant_and_food c.args.step.from c.args.step.to 7 c.requires.writes

pub loop-r-init : goal.loop-r-init
loop-r-init c =
    let cells = (world_of c.args.base.now).cells in
    let last = (trail_world c.args.trail.now).cells in
    record {
      reads = rw c.note_if_fallen.ensures.reads (sym (fallen-parts c.args.reads.now.items cells cells last load_and_food c.args.step.from c.args.step.to));
      writes = rw c.note_if_fallen.ensures.writes (sym (fallen-parts c.args.writes.now.items last cells last ant_and_food c.args.step.from c.args.step.to));
    }

pub note_if_fallen-requires-in-loop-r-clause-inside : goal.note_if_fallen-requires-in-loop-r-clause-inside
note_if_fallen-requires-in-loop-r-clause-inside c = rw c.neighbours-around.ensures (neighbours_of-inside c.loop-r.r-index _ c.requires.inner c.loop-r-test.true)

pub note_if_fallen-requires-in-loop-r-clause-reads : goal.note_if_fallen-requires-in-loop-r-clause-reads
note_if_fallen-requires-in-loop-r-clause-reads c =
    let cells = (world_of c.args.base.now).cells in
    rw c.neighbours-around.ensures
    (sightings_of-flat_room c.loop-r.reads.items _ cells load_and_food (fallen_at cells (trail_world c.args.trail.now).cells c.args.step.from c.args.step.to) (neighbours_of c.args.step.to) c.loop-r.r-index _ 19 (subst (λ n. c.loop-r.r-index < n) (sym (neighbours_of_length c.args.step.to)) c.loop-r-test.true) c.loop-r.invariant.reads c.requires.reads)

pub note_if_fallen-requires-in-loop-r-clause-writes : goal.note_if_fallen-requires-in-loop-r-clause-writes
note_if_fallen-requires-in-loop-r-clause-writes c =
    let last = (trail_world c.args.trail.now).cells in
    rw c.neighbours-around.ensures
    (sightings_of-flat_room c.loop-r.writes.items _ last ant_and_food (fallen_at (world_of c.args.base.now).cells last c.args.step.from c.args.step.to) (neighbours_of c.args.step.to) c.loop-r.r-index _ 7 (subst (λ n. c.loop-r.r-index < n) (sym (neighbours_of_length c.args.step.to)) c.loop-r-test.true) c.loop-r.invariant.writes c.requires.writes)

pub loop-r-preserved : goal.loop-r-preserved
loop-r-preserved c =
    let cells = (world_of c.args.base.now).cells in
    let last = (trail_world c.args.trail.now).cells in
    let f = fallen_at cells last c.args.step.from c.args.step.to in
    record {
      reads = rw (c.note_if_fallen-in-loop-r.ensures.reads, c.neighbours-around.ensures) (sym (sightings_of-flat_next c.loop-r.reads.items cells load_and_food f (neighbours_of c.args.step.to) c.loop-r.r-index _ (subst (λ n. c.loop-r.r-index < n) (sym (neighbours_of_length c.args.step.to)) c.loop-r-test.true)) ∙ c.loop-r.invariant.reads);
      writes = rw (c.note_if_fallen-in-loop-r.ensures.writes, c.neighbours-around.ensures) (sym (sightings_of-flat_next c.loop-r.writes.items last ant_and_food f (neighbours_of c.args.step.to) c.loop-r.r-index _ (subst (λ n. c.loop-r.r-index < n) (sym (neighbours_of_length c.args.step.to)) c.loop-r-test.true)) ∙ c.loop-r.invariant.writes);
    }
