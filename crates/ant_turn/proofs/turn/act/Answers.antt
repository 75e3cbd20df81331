-- the turn of an ant that executes its instruction
use Rattle.std.proofs.Common.{◌≡◌, Some, slice_get}
use Rattle.cell_world.proofs.Places.{holds_id-own, place_in-found}
use Rattle.ant_turn.specs.Minds.{minds_of, mind_of}
use Rattle.ant_turn.proofs.KeptByTurns.{Keeps-execute}
use Rattle.ant_turn.proofs.StandsLemmas.{StandsAt-at}
use Rattle.ant_turn.proofs.Turns.{turn-executes}
use Rattle.ant_turn.proofs.turn.act.Goals as goal

pub execute-requires-clause-stands : goal.execute-requires-clause-stands
execute-requires-clause-stands g c =
    StandsAt-at (g.G.Ground.world c.args.ground.now) c.args.standing.place c.args.standing.ant c.requires.valid c.requires.here

pub returns : goal.returns
returns g c =
    let w = g.G.Ground.world c.args.ground.now in
    let s = c.args.stream.now in
    let p = c.args.standing.place in
    let ant = c.args.standing.ant in
    let instruction = c.instruction-instruction.result.now in
    let at : slice_get (mind_of (minds_of c.args.brains) ant.colour) ant.state ≡ Some instruction = rw (← c.of.ensures) c.instruction-instruction.ensures.instruction in
    let found = place_in-found w ant.id p c.requires.valid (holds_id-own (w.cells p) ant c.requires.here) in
    let does = turn-executes (minds_of c.args.brains) s.seed w s.place ant.id p ant instruction found c.requires.here c.requires.up at in
    let kept = Keeps-execute (minds_of c.args.brains) s.seed w s.place p ant instruction c.args.brains.sheet.light c.requires.valid c.requires.fit c.requires.here (rw (← c.of.ensures) c.instruction-instruction.ensures.sound) in
    record {
      world = rw does c.execute.ensures.world;
      stream = rw does c.execute.ensures.stream;
      drew = rw does c.execute.ensures.drew;
      killed = rw does c.execute.ensures.killed;
      room = c.execute.ensures.room;
      valid = c.execute.ensures.valid;
      fit = rw c.execute.ensures.world kept.fits;
    }
