use Rattle.std.proofs.Common.{◌∙◌, sym, ap, ltb-true}
use Rattle.std.specs.Prelude.{option_map}
use Rattle.ant_turn.proofs.FoundAnts.{found-holds, found-place}
use Rattle.cell_world.specs.declared.ant.PlacedAnt.{PlacedAnt}
use Rattle.cell_world.specs.Grid.{world_of}
use Rattle.cell_world.specs.World.{place_in}
use Rattle.break_view.proofs.IdleTurns.{dead-idle, found-idle}
use Rattle.break_view.proofs.watched_turn.is_idle.Goals as goal

pub returns-in-Some-clause-idle : goal.returns-in-Some-clause-idle
returns-in-Some-clause-idle c = λ tired.
    let w = world_of c.args.world.now in
    found-idle w c.args.id c.in-Some.standing
    (found-place (place_in w c.args.id) c.ant_of.result c.in-Some.standing c.ant_of.ensures.place c.in-Some.is)
    (found-holds w c.ant_of.result c.in-Some.standing c.ant_of.ensures.ant c.in-Some.is)
    (ltb-true 0 c.in-Some.standing.ant.resting tired)

pub returns-in-None-clause-idle : goal.returns-in-None-clause-idle
returns-in-None-clause-idle c = λ _.
    dead-idle (world_of c.args.world.now) c.args.id (sym c.ant_of.ensures.place ∙ ap (option_map (λ (it : PlacedAnt). it.place)) c.in-None.is)
