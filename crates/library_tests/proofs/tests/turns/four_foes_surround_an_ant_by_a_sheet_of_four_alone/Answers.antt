-- the kinds that are written out are a plan
use Rattle.std.proofs.Common.{refl}
use Rattle.cell_world.proofs.Plans.{IsPlan-test}
use Rattle.library_tests.proofs.tests.turns.four_foes_surround_an_ant_by_a_sheet_of_four_alone.Goals as goal

pub build-requires : goal.build-requires
build-requires g c = IsPlan-test 7 6 _ refl
