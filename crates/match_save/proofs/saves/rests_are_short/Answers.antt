use Rattle.std.proofs.Common.{◌≡◌, ◌+◌, ℕ, suc, ◌≤◌, arith, subst}
use Rattle.std.specs.List.{AllByRecursion}
use Rattle.list_lemmas.proofs.AllElements.{AllByRecursion-append}
use Rattle.cell_world.specs.declared.ant.PlacedAnt.{PlacedAnt}
use Rattle.cell_world.specs.Grid.{world_of}
use Rattle.cell_world.specs.World.{place_in}
use Rattle.match_save.specs.Saved.{living, living_at}
use Rattle.match_save.proofs.saves.rests_are_short.Goals as goal

pub loop-id-preserved : goal.loop-id-preserved
loop-id-preserved c =
    let next : suc c.loop-id.id ≡ c.loop-id.id + 1 = omega arith in
    subst (λ (n : ℕ). AllByRecursion (λ (it : PlacedAnt). it.ant.resting ≤ 255) (living c.args.world.now n)) next
    (AllByRecursion-append (λ (it : PlacedAnt). it.ant.resting ≤ 255) (living c.args.world.now c.loop-id.id) (living_at c.args.world.now (place_in (world_of c.args.world.now) c.loop-id.id)) c.loop-id.invariant c.rest_is_short.ensures)
