use Rattle.std.proofs.Common.{sym}
use Rattle.cell_world.proofs.Places.{place_in-inside}
use Rattle.cell_world.specs.Grid.{world_of}
use Rattle.match_save.proofs.write.AntLinesNumberedTexts.push_part.Goals as goal

pub cell-requires : goal.cell-requires
cell-requires g c = place_in-inside (world_of c.args.self.now.0.now) c.args.at c.in-Some.place (sym c.in-Some.ensures.place)
