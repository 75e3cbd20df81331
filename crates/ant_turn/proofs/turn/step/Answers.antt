-- the own cell is cleared before the ant appears on the next
use Rattle.std.proofs.Common.{◌≡◌, refl, arith}
use Rattle.hex_geometry.proofs.Places.{inner_inside}
use Rattle.cell_world.specs.World.{with_cells}
use Rattle.ant_turn.specs.Sheet.{sheet_of}
use Rattle.ant_turn.specs.Turn.{stepped}
use Rattle.ant_turn.proofs.StandsLemmas.{CanSet-left, CanSet-next, own_read, stepped-put}
use Rattle.ant_turn.proofs.turn.step.Goals as goal

pub cell_at-cell-requires : goal.cell_at-cell-requires
cell_at-cell-requires g c = inner_inside c.requires.stands.inner

pub set-requires : goal.set-requires
set-requires g c =
    rw (c.cell_without_ant.ensures, c.cell_at-cell.ensures.world) (CanSet-left (own_read c.requires.stands c.cell_at-cell.ensures.content) _ (omega (arith, c.requires.room, c.cell_at-cell.ensures.room)))

pub set-requires-2 : goal.set-requires-2
set-requires-2 g c =
    rw (c.set.ensures.set, c.cell_without_ant.ensures, c.cell_after_arrival.ensures, c.cell_at-cell.ensures.world)
    (CanSet-next (own_read c.requires.stands c.cell_at-cell.ensures.content) (sheet_of c.args.sheet) c.args.q c.args.there.now c.args.next _ c.requires.there c.requires.free (omega (arith, c.requires.room, c.set.ensures.room, c.cell_at-cell.ensures.room)))

pub returns-clause-world : goal.returns-clause-world
returns-clause-world g c =
    let w = g.G.Ground.world c.args.ground.now in
    let moved : g.G.Ground.world c.set-2.new.self ≡ with_cells w (stepped (sheet_of c.args.sheet) w.cells c.args.standing.place c.args.standing.ant c.args.q c.args.next) =
    rw (c.set-2.ensures.set, c.set.ensures.set, c.cell_without_ant.ensures, c.cell_after_arrival.ensures, c.cell_at-cell.ensures.world) (stepped-put (own_read c.requires.stands c.cell_at-cell.ensures.content) (sheet_of c.args.sheet) c.args.q c.args.there.now c.args.next c.requires.there) in
    rw (c.kill_around.ensures.world, moved) refl

pub returns-clause-killed : goal.returns-clause-killed
returns-clause-killed g c =
    let w = g.G.Ground.world c.args.ground.now in
    let moved : g.G.Ground.world c.set-2.new.self ≡ with_cells w (stepped (sheet_of c.args.sheet) w.cells c.args.standing.place c.args.standing.ant c.args.q c.args.next) =
    rw (c.set-2.ensures.set, c.set.ensures.set, c.cell_without_ant.ensures, c.cell_after_arrival.ensures, c.cell_at-cell.ensures.world) (stepped-put (own_read c.requires.stands c.cell_at-cell.ensures.content) (sheet_of c.args.sheet) c.args.q c.args.there.now c.args.next c.requires.there) in
    rw (c.kill_around.ensures.killed, moved) refl

pub returns-clause-noted : goal.returns-clause-noted
returns-clause-noted g c =
    let w = g.G.Ground.world c.args.ground.now in
    let moved : g.G.Ground.world c.set-2.new.self ≡ with_cells w (stepped (sheet_of c.args.sheet) w.cells c.args.standing.place c.args.standing.ant c.args.q c.args.next) =
    rw (c.set-2.ensures.set, c.set.ensures.set, c.cell_without_ant.ensures, c.cell_after_arrival.ensures, c.cell_at-cell.ensures.world) (stepped-put (own_read c.requires.stands c.cell_at-cell.ensures.content) (sheet_of c.args.sheet) c.args.q c.args.there.now c.args.next c.requires.there) in
    rw (c.kill_around.ensures.noted, moved) refl
