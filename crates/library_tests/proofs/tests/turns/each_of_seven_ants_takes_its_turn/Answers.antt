-- the kinds that are written out are a plan, and the brains fit the world from the start on
use Rattle.std.proofs.Common.{◌≤◌, List, length, refl, subst}
use Rattle.cell_world.proofs.Plans.{IsPlan-test}
use Rattle.brain_read.specs.declared.instr.Instr.{Instr}
use Rattle.ant_turn.proofs.FitLemmas.{Fits-opening}
use Rattle.library_tests.proofs.tests.turns.each_of_seven_ants_takes_its_turn.Goals as goal

pub build-requires : goal.build-requires
build-requires g c = IsPlan-test 7 6 _ refl

pub check_round-requires : goal.check_round-requires
check_round-requires g c =
    let made = rw c.expect-world.ensures at c.build.ensures in
    rw made (Fits-opening 7 6 _ _
    (subst (λ (list : List Instr). 1 ≤ length list) c.red.view_is c.red.invariant.some)
    (subst (λ (list : List Instr). 1 ≤ length list) c.black.view_is c.black.invariant.some))
