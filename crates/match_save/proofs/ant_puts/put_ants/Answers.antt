use Rattle.std.proofs.Common.{◌+◌, List, drop, subst, arith}
use Rattle.cell_world.specs.declared.ant.PlacedAnt.{PlacedAnt}
use Rattle.match_save.specs.Inner.Puts.{PutsOn}
use Rattle.match_save.proofs.PutLemmas.{PutsOn-asks, PutsOn-more, drop-from}
use Rattle.match_save.proofs.ant_puts.put_ants.Goals as goal

pub put_ant-requires-clause-late : goal.put_ant-requires-clause-late
put_ant-requires-clause-late c =
    let on = subst (λ (l : List PlacedAnt). PutsOn c.args.world.now c.loop-it.world c.args.ants.now l) (drop-from c.args.ants.now c.loop-it.it-index _ (omega arith)) c.loop-it.invariant in
    (PutsOn-asks _ (drop (c.loop-it.it-index + 1) c.args.ants.now) on).late

pub loop-it-preserved : goal.loop-it-preserved
loop-it-preserved c =
    let on = subst (λ (l : List PlacedAnt). PutsOn c.args.world.now c.loop-it.world c.args.ants.now l) (drop-from c.args.ants.now c.loop-it.it-index _ (omega arith)) c.loop-it.invariant in
    PutsOn-more c.put_ant.new.world _ (drop (c.loop-it.it-index + 1) c.args.ants.now) on c.if-not-put_ant.ensures

pub put_ant-requires-clause-inside : goal.put_ant-requires-clause-inside
put_ant-requires-clause-inside c =
    let on = subst (λ (l : List PlacedAnt). PutsOn c.args.world.now c.loop-it.world c.args.ants.now l) (drop-from c.args.ants.now c.loop-it.it-index _ (omega arith)) c.loop-it.invariant in
    (PutsOn-asks _ (drop (c.loop-it.it-index + 1) c.args.ants.now) on).inside

pub put_ant-requires-clause-light : goal.put_ant-requires-clause-light
put_ant-requires-clause-light c =
    let on = subst (λ (l : List PlacedAnt). PutsOn c.args.world.now c.loop-it.world c.args.ants.now l) (drop-from c.args.ants.now c.loop-it.it-index _ (omega arith)) c.loop-it.invariant in
    (PutsOn-asks _ (drop (c.loop-it.it-index + 1) c.args.ants.now) on).light
