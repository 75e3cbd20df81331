-- the cells that are written out are those of a world without an ant
use Rattle.std.proofs.Common.{subst, sym}
use Rattle.cell_world.specs.declared.marks.Marks.{Marks}
use Rattle.cell_world.specs.Grid.{IsGround}
use Rattle.cell_world.proofs.GroundWorked.{IsGround-fed, fed_grid}
use Rattle.library_tests.proofs.tests.worlds.cells_without_ants_are_a_world.Goals as goal

pub of_ground-requires : goal.of_ground-requires
of_ground-requires g c = subst (λ (marks : Marks). IsGround (fed_grid marks)) (sym c.none-none.ensures) IsGround-fed
