-- a world that was read is an opening world, and each brain has a first state
use Rattle.std.proofs.Common.{sym, subst}
use Rattle.cell_world.specs.Grid.{Grid, world_of}
use Rattle.ant_turn.specs.Minds.{Fits, minds_of}
use Rattle.ant_turn.proofs.FitLemmas.{Fits-opening}
use Rattle.look_bench.proofs.look_often.Goals as goal

pub look_at_all-drawn-requires : goal.look_at_all-drawn-requires
look_at_all-drawn-requires c =
    let grid : Grid = c.args.world.now in
    subst (λ (g : Grid). Fits (world_of g) (minds_of c.args.brains)) (sym c.requires.is)
    (Fits-opening grid.width grid.height c.requires.kinds (minds_of c.args.brains) c.len-red_states.ensures.brain.some c.len-black_states.ensures.brain.some)
