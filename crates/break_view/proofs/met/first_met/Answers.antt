use Rattle.std.proofs.Common.{◌≤◌, length, sym, ◌∙◌, arith}
use Rattle.cell_world.specs.Grid.{world_of}
use Rattle.break_view.proofs.MetLemmas.{met-here, met-later, met-end}
use Rattle.break_view.proofs.met.first_met.Goals as goal

pub returns-then-meets : goal.returns-then-meets
returns-then-meets c =
    sym (met-here c.args.items.now c.loop-item.item-index c.loop-item.number _ (world_of c.args.world.now) c.args.round c.args.id c.loop-item-test.true (sym (c.meets.ensures c.args.id c.ant_of-ant.ensures) ∙ c.if-meets.true))
    ∙ c.loop-item.invariant.rest

pub loop-item-preserved : goal.loop-item-preserved
loop-item-preserved c = record {
  rest =
      sym (met-later c.args.items.now c.loop-item.item-index c.loop-item.number _ (world_of c.args.world.now) c.args.round c.args.id c.loop-item-test.true (sym (c.meets.ensures c.args.id c.ant_of-ant.ensures) ∙ c.if-meets.false))
      ∙ c.loop-item.invariant.rest;
  counted = (let so_far = c.loop-item.invariant.counted in omega (arith, so_far));
}

pub returns : goal.returns
returns c =
    let all : length c.args.items.now ≤ c.loop-item.item-index = omega (arith, c.loop-item-test.false) in
    sym (met-end c.args.items.now c.loop-item.item-index c.loop-item.number (world_of c.args.world.now) c.args.round c.args.id all) ∙ c.loop-item.invariant.rest
