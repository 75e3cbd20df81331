-- the turn of a dead ant, and of one that was found
use Rattle.std.proofs.Common.{◌≡◌, ◌∙◌, Some, sym, ap, subst}
use Rattle.std.specs.Prelude.{option_map}
use Rattle.ant_turn.specs.Minds.{minds_of}
use Rattle.ant_turn.proofs.FoundAnts.{found-holds, found-place, stream-undrawn}
use Rattle.ant_turn.proofs.FoundTurns.{found-id}
use Rattle.ant_turn.proofs.Turns.{turn-dead}
use Rattle.cell_world.specs.declared.ant.PlacedAnt.{PlacedAnt}
use Rattle.cell_world.specs.World.{World, place_in}
use Rattle.match_run.specs.Watch.{moment_of}
use Rattle.match_run.proofs.WatchLemmas.{IsWatched-found, IsWatched-idle}
use Rattle.match_run.proofs.watched.watch_acting.Goals as goal

pub returns-in_default : goal.returns-in_default
returns-in_default g c =
    let minds = minds_of c.args.brains.now in
    let w = g.W.On.Ground.world c.args.board.now in
    let s = c.args.stream.now in
    let gone = sym c.ant_of.ensures.place ∙ ap (option_map (λ (it : PlacedAnt). it.place)) c.in_default.is in
    let dead = turn-dead minds s.seed w s.place c.args.id gone in
    IsWatched-idle (c.requires.fair s.seed) minds w c.args.id c.args.log.now (((c.requires.fair s.seed).ignores c.args.round).dead (moment_of w s) c.args.id gone)
    (rw dead c.ant_of.ensures.world) (rw dead (stream-undrawn s)) (rw c.ant_of.ensures.world c.requires.fit)

pub turn-requires-clause-fit : goal.turn-requires-clause-fit
turn-requires-clause-fit g c = rw c.ant_of.ensures.world c.requires.fit

pub turn-requires-clause-found : goal.turn-requires-clause-found
turn-requires-clause-found g c =
    let w = g.W.On.Ground.world c.args.board.now in
    let found = found-place (place_in w c.args.id) c.ant_of.result c.in-Some.standing c.ant_of.ensures.place c.in-Some.is in
    let own = found-id w c.args.id c.ant_of.result c.in-Some.standing c.ant_of.ensures.place c.ant_of.ensures.ant c.in-Some.is in
    rw (c.ant_of.ensures.world, own) found

pub turn-requires-clause-here : goal.turn-requires-clause-here
turn-requires-clause-here g c =
    subst (λ (w : World). (w.cells c.in-Some.standing.place).ant ≡ Some c.in-Some.standing.ant) (sym c.ant_of.ensures.world) (found-holds (g.W.On.Ground.world c.args.board.now) c.ant_of.result c.in-Some.standing c.ant_of.ensures.ant c.in-Some.is)

pub turn-requires-clause-up : goal.turn-requires-clause-up
turn-requires-clause-up g c =
    let w = g.W.On.Ground.world c.args.board.now in
    c.requires.up c.in-Some.standing.place c.in-Some.standing.ant (found-holds w c.ant_of.result c.in-Some.standing c.ant_of.ensures.ant c.in-Some.is)
    (found-id w c.args.id c.ant_of.result c.in-Some.standing c.ant_of.ensures.place c.ant_of.ensures.ant c.in-Some.is)

pub returns : goal.returns
returns g c =
    let minds = minds_of c.args.brains.now in
    let w = g.W.On.Ground.world c.args.board.now in
    IsWatched-found (c.requires.fair c.args.stream.now.seed) minds (g.W.Watch.telling c.args.watch.now minds c.args.stream.now.seed c.args.round) c.turn.result c.ant_of.ensures.world
    (found-id w c.args.id c.ant_of.result c.in-Some.standing c.ant_of.ensures.place c.ant_of.ensures.ant c.in-Some.is)
    c.turn.ensures.world c.turn.ensures.stream c.turn.ensures.fit c.turn.ensures.logged c.turn.ensures.ready
