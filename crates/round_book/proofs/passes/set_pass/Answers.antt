use Rattle.std.proofs.Common.{arith}
use Rattle.cell_world.specs.Grid.{world_of}
use Rattle.round_book.proofs.PassLemmas.{PassLeft-end, PassLeft-item, PassLeft-step}
use Rattle.round_book.proofs.passes.set_pass.Goals as goal

pub set_in_pass-requires-clause-patch : goal.set_in_pass-requires-clause-patch
set_in_pass-requires-clause-patch c =
    (PassLeft-item c.args.heavier (world_of c.args.world.now) c.args.writes.now (world_of c.loop-write.world) c.loop-write.write-index _ c.loop-write-test.true c.loop-write.invariant).0

pub set_in_pass-requires-clause-set : goal.set_in_pass-requires-clause-set
set_in_pass-requires-clause-set c =
    (PassLeft-item c.args.heavier (world_of c.args.world.now) c.args.writes.now (world_of c.loop-write.world) c.loop-write.write-index _ c.loop-write-test.true c.loop-write.invariant).1

pub loop-write-preserved : goal.loop-write-preserved
loop-write-preserved c =
    PassLeft-step c.args.heavier (world_of c.args.world.now) c.args.writes.now (world_of c.loop-write.world) c.loop-write.write-index _ (world_of c.set_in_pass.new.world) c.loop-write-test.true c.set_in_pass.ensures c.loop-write.invariant

pub returns : goal.returns
returns c = PassLeft-end c.args.heavier (world_of c.args.world.now) c.args.writes.now (world_of c.loop-write.world) c.loop-write.write-index (omega (arith, c.loop-write-test.false)) c.loop-write.invariant
