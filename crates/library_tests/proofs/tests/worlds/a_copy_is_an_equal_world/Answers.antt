-- the kinds that are written out are a plan
use Rattle.cell_world.proofs.OpeningWorked.{IsPlan-one_hill}
use Rattle.library_tests.proofs.tests.worlds.a_copy_is_an_equal_world.Goals as goal

pub build-requires : goal.build-requires
build-requires g c = IsPlan-one_hill
