-- one more ant is in its place
use Rattle.std.proofs.Common.{arith}
use Rattle.cell_world.specs.Grid.{world_of}
use Rattle.ants_c.proofs.Looks.{ant_more}
use Rattle.ants_c.proofs.look.put_ants.Goals as goal

pub loop-id-preserved : goal.loop-id-preserved
loop-id-preserved c =
    let below = c.loop-id-test.true in
    let ids = c.ant_count-id-end.ensures.ids in
    let fits = c.requires.fits in
    rw (c.loop-id.invariant, c.seen_ant.ensures) (ant_more (world_of c.args.world.now) c.args.room.now c.loop-id.id (omega (arith, below, ids, fits)))
