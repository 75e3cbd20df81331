use Rattle.std.proofs.Common.{sym}
use Rattle.cell_world.proofs.Places.{place_in-inside}
use Rattle.cell_world.specs.Grid.{world_of}
use Rattle.match_save.proofs.saves.rest_is_short.Goals as goal

pub cell-requires : goal.cell-requires
cell-requires c = place_in-inside (world_of c.args.world.now) c.args.id c.in-Some.place (sym c.in-Some.ensures.place)
