-- a place that has an ant is inside the world
use Rattle.std.proofs.Common.{sym, ◌∙◌}
use Rattle.cell_world.specs.Grid.{world_of}
use Rattle.cell_world.proofs.Places.{place_in-inside}
use Rattle.sample_caller.proofs.watched.is_laden.Goals as goal

pub cell-requires : goal.cell-requires
cell-requires c = place_in-inside (world_of c.args.world.now) c.args.id c.in-Some.place (sym c.ant_place.ensures.place ∙ c.in-Some.is)
