-- the turn of a dead ant, of one that rests, and of one that acts
use Rattle.std.proofs.Common.{◌≡◌, ◌+◌, ◌-◌, Some, refl, subst, arith}
use Rattle.cell_world.specs.Valid.{Valid}
use Rattle.cell_world.specs.World.{place_in, with_cells}
use Rattle.brain_read.specs.declared.instr.Instr.TheVariants.{Drop}
use Rattle.ant_turn.specs.Minds.{minds_of}
use Rattle.ant_turn.specs.Turn.{ant_becomes, with_ant}
use Rattle.ant_turn.proofs.FoundAnts.{found-place, found-holds, stream-undrawn}
use Rattle.ant_turn.proofs.FoundTurns.{found-id, takes-found, takes-none}
use Rattle.ant_turn.proofs.KeptByTurns.{Keeps-stays}
use Rattle.ant_turn.proofs.OwnCells.{rest_stays}
use Rattle.ant_turn.proofs.StandsLemmas.{StandsAt-at, own_thinks}
use Rattle.ant_turn.proofs.Turns.{turn-rests}
use Rattle.ant_turn.proofs.turn.take_turn.Goals as goal

pub returns-in_default : goal.returns-in_default
returns-in_default g c =
    takes-none c.ant_of.result c.ant_of.ensures.place c.in_default.is c.requires.fit c.ant_of.ensures.world c.ant_of.ensures.room c.ant_of.ensures.valid c.idle.ensures.drew c.idle.ensures.killed

pub think-requires : goal.think-requires
think-requires g c =
    let w = g.G.Ground.world c.args.ground.now in
    let it = c.in-Some.standing in
    rw (c.ant_after_rest.ensures, c.ant_of.ensures.world)
    (own_thinks (StandsAt-at w it.place it.ant (subst Valid c.ant_of.ensures.world c.ant_of.ensures.valid) (found-holds w c.ant_of.result it c.ant_of.ensures.ant c.in-Some.is)) _ (record it.ant { resting = it.ant.resting - 1 }) (omega (arith, c.ant_of.ensures.room, c.requires.room)) refl refl refl)

pub returns-then-standing-gt0 : goal.returns-then-standing-gt0
returns-then-standing-gt0 g c =
    let w = g.G.Ground.world c.args.ground.now in
    let s = c.args.stream.now in
    let p = c.in-Some.standing.place in
    let ant = c.in-Some.standing.ant in
    let same : g.G.Ground.world c.ant_of.new.self ≡ w = c.ant_of.ensures.world in
    let here : (w.cells p).ant ≡ Some ant = found-holds w c.ant_of.result c.in-Some.standing c.ant_of.ensures.ant c.in-Some.is in
    let less : ant.resting ≡ ant.resting - 1 + 1 = omega (arith, c.if-standing-gt0.true) in
    let tired = turn-rests (minds_of c.args.brains) s.seed w s.place c.args.id p ant (ant.resting - 1) (found-place (place_in w c.args.id) c.ant_of.result c.in-Some.standing c.ant_of.ensures.place c.in-Some.is) here less in
    let now : g.G.Ground.world c.think.new.ground ≡ with_cells w (ant_becomes w.cells p (record ant { resting = ant.resting - 1 })).cells =
    rw (c.think.ensures.world, same, c.ant_after_rest.ensures) refl in
    let kept = Keeps-stays (minds_of c.args.brains) w p ant (Drop 0) (with_ant (w.cells p) (record ant { resting = ant.resting - 1 })) (subst Valid same c.ant_of.ensures.valid) c.requires.fit here
    (omega (arith, c.requires.fit.below p ant here)) (rest_stays (Drop 0) (w.cells p) ant (ant.resting - 1)) in
    record {
      world = rw tired now;
      stream = rw tired (stream-undrawn s);
      drew = rw tired c.think.ensures.drew;
      killed = rw tired c.think.ensures.killed;
      room = omega (arith, c.ant_of.ensures.room, c.think.ensures.room);
      valid = c.think.ensures.valid;
      fit = rw now kept.fits;
    }

pub act-requires-clause-fit : goal.act-requires-clause-fit
act-requires-clause-fit g c = rw c.ant_of.ensures.world c.requires.fit

pub act-requires-clause-here : goal.act-requires-clause-here
act-requires-clause-here g c =
    rw c.ant_of.ensures.world (found-holds (g.G.Ground.world c.args.ground.now) c.ant_of.result c.in-Some.standing c.ant_of.ensures.ant c.in-Some.is)

pub act-requires-clause-up : goal.act-requires-clause-up
act-requires-clause-up g c = omega (arith, c.if-standing-gt0.false)

pub returns : goal.returns
returns g c =
    takes-found c.ant_of.ensures.world c.ant_of.ensures.room
    (found-id (g.G.Ground.world c.args.ground.now) c.args.id c.ant_of.result c.in-Some.standing c.ant_of.ensures.place c.ant_of.ensures.ant c.in-Some.is) c.act.ensures
