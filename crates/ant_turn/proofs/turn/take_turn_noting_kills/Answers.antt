-- a Move tells whom it kills, and nothing else kills
use Rattle.std.proofs.Common.{◌≡◌, ℕ, Bool, true, false, if◌then◌else◌, [], Some, refl, sym, subst, slice_get}
use Rattle.hex_geometry.specs.declared.position.Pos.{Pos}
use Rattle.hex_geometry.specs.Neighbourhood.{adjacent_pos}
use Rattle.brain_read.specs.Soundness.{IsSound}
use Rattle.cell_world.specs.declared.ant.Ant.{Ant}
use Rattle.cell_world.specs.World.{Cells}
use Rattle.ant_turn.specs.Sheet.{Sheet, sheet_of}
use Rattle.ant_turn.specs.Turn.{ant_becomes, checked, execute, in_state, is_blocked, stepped}
use Rattle.brain_read.specs.declared.instr.Instr.{Instr}
use Rattle.brain_read.specs.declared.instr.Instr.TheVariants.{Sense, Mark, Unmark, PickUp, Drop, Turn, Move, Flip}
use Rattle.ant_turn.specs.Deaths.{dead_by}
use Rattle.cell_world.proofs.Places.{holds_id-own, place_in-found}
use Rattle.ant_turn.specs.Minds.{minds_of, mind_of}
use Rattle.ant_turn.proofs.Checks.{noted-none}
use Rattle.ant_turn.proofs.FoundAnts.{stream-undrawn}
use Rattle.ant_turn.proofs.KeptByTurns.{Keeps-execute}
use Rattle.ant_turn.proofs.StandsLemmas.{StandsAt-at}
use Rattle.ant_turn.proofs.Turns.{dead_in-executes, turn-executes}
use Rattle.ant_turn.proofs.turn.take_turn_noting_kills.Goals as goal

-- a Move draws no number
undrawn : (sheet : Sheet) (seed : ℕ) (cells : Cells) (place : ℕ) (p : Pos) (ant : Ant) (met unmet : ℕ) → (execute sheet seed cells place p ant (Move met unmet)).drew ≡ false
undrawn sheet seed cells place p ant met unmet = go (is_blocked (cells (adjacent_pos p ant.facing)))
  where
    go : (b : Bool) → (if b then ant_becomes cells p (in_state ant unmet) else checked sheet (stepped sheet cells p ant (adjacent_pos p ant.facing) met) (adjacent_pos p ant.facing)).drew ≡ false
    go true = refl
    go false = refl

-- any instruction except a Move kills no ant
still : (sheet : Sheet) (cells : Cells) (p : Pos) (ant : Ant) (instruction : Instr) → ((met unmet : ℕ) → instruction ≡ Move met unmet → ⊥) → dead_by sheet cells p ant instruction ≡ []
still sheet cells p ant (Sense sight met unmet condition) other = refl
still sheet cells p ant (Mark i next) other = refl
still sheet cells p ant (Unmark i next) other = refl
still sheet cells p ant (PickUp met unmet) other = refl
still sheet cells p ant (Drop next) other = refl
still sheet cells p ant (Turn side next) other = refl
still sheet cells p ant (Move met unmet) other = absurd (other met unmet refl)
still sheet cells p ant (Flip bound met unmet) other = refl

pub go-requires-clause-stands : goal.go-requires-clause-stands
go-requires-clause-stands g c =
    StandsAt-at (g.G.Ground.world c.args.ground.now) c.args.standing.place c.args.standing.ant c.requires.valid c.requires.here

pub returns-in-Move-clause-taken : goal.returns-in-Move-clause-taken
returns-in-Move-clause-taken g c =
    let w = g.G.Ground.world c.args.ground.now in
    let s = c.args.stream.now in
    let p = c.args.standing.place in
    let ant = c.args.standing.ant in
    let instruction = Move c.in-Move.yes c.in-Move.no in
    let at : slice_get (mind_of (minds_of c.args.brains) ant.colour) ant.state ≡ Some instruction = rw (← c.of.ensures, ← c.in-Move.is) c.instruction-instruction.ensures.instruction in
    let found = place_in-found w ant.id p c.requires.valid (holds_id-own (w.cells p) ant c.requires.here) in
    let does = turn-executes (minds_of c.args.brains) s.seed w s.place ant.id p ant instruction found c.requires.here c.requires.up at in
    let kept = Keeps-execute (minds_of c.args.brains) s.seed w s.place p ant instruction c.args.brains.sheet.light c.requires.valid c.requires.fit c.requires.here (subst (IsSound _) c.in-Move.is (rw (← c.of.ensures) c.instruction-instruction.ensures.sound)) in
    record {
      world = rw does (c.go.ensures.world s.seed s.place);
      stream = rw (does, undrawn (sheet_of c.args.brains.sheet) s.seed w.cells s.place p ant c.in-Move.yes c.in-Move.no) (stream-undrawn s);
      drew = rw (does, undrawn (sheet_of c.args.brains.sheet) s.seed w.cells s.place p ant c.in-Move.yes c.in-Move.no) c.go.ensures.drew;
      killed = rw does (c.go.ensures.killed s.seed s.place);
      room = c.go.ensures.room;
      valid = c.go.ensures.valid;
      fit = rw (c.go.ensures.world s.seed s.place) kept.fits;
    }

pub returns-in-Move-clause-noted : goal.returns-in-Move-clause-noted
returns-in-Move-clause-noted g c =
    let w = g.G.Ground.world c.args.ground.now in
    let p = c.args.standing.place in
    let ant = c.args.standing.ant in
    let instruction = Move c.in-Move.yes c.in-Move.no in
    let at : slice_get (mind_of (minds_of c.args.brains) ant.colour) ant.state ≡ Some instruction = rw (← c.of.ensures, ← c.in-Move.is) c.instruction-instruction.ensures.instruction in
    let found = place_in-found w ant.id p c.requires.valid (holds_id-own (w.cells p) ant c.requires.here) in
    rw (dead_in-executes (minds_of c.args.brains) w ant.id p ant instruction found c.requires.here c.requires.up at) c.go.ensures.noted

pub returns-in_default-clause-noted : goal.returns-in_default-clause-noted
returns-in_default-clause-noted g c =
    let w = g.G.Ground.world c.args.ground.now in
    let p = c.args.standing.place in
    let ant = c.args.standing.ant in
    let instruction = c.instruction-instruction.result.now in
    let at : slice_get (mind_of (minds_of c.args.brains) ant.colour) ant.state ≡ Some instruction = rw (← c.of.ensures) c.instruction-instruction.ensures.instruction in
    let found = place_in-found w ant.id p c.requires.valid (holds_id-own (w.cells p) ant c.requires.here) in
    rw (dead_in-executes (minds_of c.args.brains) w ant.id p ant instruction found c.requires.here c.requires.up at, still (sheet_of c.args.brains.sheet) w.cells p ant instruction c.in_default.not-Move) (sym (noted-none (g.N.KillLog.noted c.args.notes.now)))
