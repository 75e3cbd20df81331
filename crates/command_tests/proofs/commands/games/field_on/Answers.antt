-- a world that was read is an opening world, and each brain has a first state
use Rattle.std.proofs.Common.{sym, subst}
use Rattle.cell_world.specs.Grid.{Grid, world_of}
use Rattle.ant_turn.specs.Minds.{Fits, minds_of}
use Rattle.ant_turn.proofs.FitLemmas.{Fits-opening}
use Rattle.command_tests.proofs.commands.games.field_on.Goals as goal

pub new-requires-clause-fit : goal.new-requires-clause-fit
new-requires-clause-fit c =
    let grid : Grid = c.in_ok-world.world in
    subst (λ (g : Grid). Fits (world_of g) (minds_of c.args.brains)) (sym c.in_ok-world.ensures.world.opened)
    (Fits-opening grid.width grid.height c.in_ok-world.ensures.world.kinds (minds_of c.args.brains) c.len-red_states.ensures.brain.some c.len-black_states.ensures.brain.some)
