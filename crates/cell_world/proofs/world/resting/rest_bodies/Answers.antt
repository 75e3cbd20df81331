-- the bodies are distinguished one after another
use Rattle.std.proofs.Common.{◌≡◌, ◌+◌, ◌≤◌, ◌<◌, ◌∙◌, arith, length, set, subst, sym, take}
use Rattle.std.proofs.lemmas.List.{length-set}
use Rattle.cell_world.specs.Cell.{one_if}
use Rattle.cell_world.specs.Inner.Stored.{no_body}
use Rattle.cell_world.specs.Inner.ToldApart.{ToldApart}
use Rattle.cell_world.proofs.GridSums.{one_if-byte, one_if-le_one}
use Rattle.cell_world.proofs.RestingLemmas.{ToldApart-more, ToldApart-none}
use Rattle.cell_world.proofs.world.resting.rest_bodies.Goals as goal

pub loop-id-init : goal.loop-id-init
loop-id-init c = (ToldApart-none c.args.bodies.now c.args.from c.args.acting.now, omega arith, c.told-acting)

pub loop-id-preserved : goal.loop-id-preserved
unfolding no_body
loop-id-preserved c =
    let told = c.loop-id.invariant.0 in
    let late : c.args.from ≤ c.loop-id.id = omega (arith, c.loop-id.auto.id) in
    let made : c.loop-id.id < length c.loop-id.bodies = omega (arith, told.all_ids, c.requires.made, c.loop-id-test.true) in
    let room : c.loop-id.count < length c.loop-id.acting = omega (arith, c.loop-id.invariant.1, c.loop-id.invariant.2, c.requires.few, c.loop-id-test.true, late) in
    let counted : c.from-count.result ≡ one_if c.rest_one-acts.result = c.from-count.ensures ∙ one_if-byte c.rest_one-acts.result in
    let small = one_if-le_one c.rest_one-acts.result in
    let more = ToldApart-more c.args.bodies.now c.loop-id.bodies c.args.from c.loop-id.id c.loop-id.acting c.loop-id.count c.rest_one-acts.new.body told late made room
    c.rest_one-acts.ensures.body c.rest_one-acts.result c.rest_one-acts.ensures.acts in (
      subst (λ n. ToldApart c.args.bodies.now (set c.loop-id.bodies c.loop-id.id c.rest_one-acts.new.body) c.args.from (c.loop-id.id + 1) (take (c.loop-id.count + n) (set c.loop-id.acting c.loop-id.count c.loop-id.id))) (sym counted) more,
      omega (arith, c.loop-id.invariant.1, counted, small, late),
      length-set c.loop-id.acting c.loop-id.count c.loop-id.id ∙ c.loop-id.invariant.2,
    )
