-- the look at an ant that goes
use Rattle.std.proofs.Common.{◌≡◌, ◌≤◌, ℕ, false, List, [], ◌∷◌, Some, refl, sym, ◌∙◌, ap, ap₂, subst, arith}
use Rattle.hex_geometry.proofs.Places.{inner_inside}
use Rattle.cell_world.specs.declared.ant.Ant.{Ant}
use Rattle.cell_world.specs.declared.cell.Cell.{Cell}
use Rattle.cell_world.specs.Colour.{foe_of}
use Rattle.cell_world.specs.declared.part.Part.TheVariants as part
use Rattle.cell_world.specs.Grid.{world_of}
use Rattle.cell_world.specs.Parts.{only}
use Rattle.cell_world.proofs.Patches.{some_one}
use Rattle.cell_world.specs.World.{Cells}
use Rattle.ant_turn.specs.Minds.{minds_of, mind_of}
use Rattle.ant_turn.specs.Turn.{instruction_at}
use Rattle.spec_record.specs.Claims.{EachOnce, Sighting, seen_positions}
use Rattle.spec_record.specs.Look.{LookValue}
use Rattle.spec_record.specs.Reads.{whole_ant}
use Rattle.spec_record.specs.Inner.Moves.{calm_reads, calm_writes, seen_from, state_gone}
use Rattle.spec_record.specs.Inner.Near.{AreNoneOf}
use Rattle.spec_record.specs.Inner.Sightings.{all_sighted, sightings_of}
use Rattle.spec_record.specs.Inner.Stays.{blank_look}
use Rattle.spec_record.proofs.LookLemmas.{GoingActs, acting-goes, acting-inner, calm-once, calm-room, calm-writes_once, look-calm, within-there}
use Rattle.spec_record.proofs.record.Look.go.Goals as goal
use Rattle.spec_record.proofs.record.Look.go.Goals.{After-note_checks, After-push, After-push-3, Start}

-- the ant acts
acting : (c : Start) → GoingActs (minds_of c.args.brains) c.args.stream.now.seed (world_of c.args.base.now) c.args.stream.now.place c.args.id c.args.step.from c.args.step.to c.requires.goes
acting c = acting-goes (minds_of c.args.brains) c.args.stream.now.seed (world_of c.args.base.now) c.args.stream.now.place c.args.id c.args.step.from c.args.step.to c.requires.goes c.requires.valid

-- the ant that is found there
found : (c : After-push) → c.in-Some.ant ≡ c.requires.goes.ant
found c = let same : Some c.in-Some.ant ≡ Some c.requires.goes.ant = sym c.in-Some.is ∙ ap (λ (cell : Cell). cell.ant) c.cell-cell.ensures.content ∙ c.requires.goes.holds in some_one same

-- what is recorded of its own cell
own : (c : After-push) → c.push.new.self.items ≡ (c.args.step.from, whole_ant, (world_of c.args.base.now).cells c.args.step.from) ∷ []
own c =
    let blank : c.self.inside.reads.items ≡ [] = ap (λ (l : LookValue). l.reads) (c.self.view_is ∙ c.begin.ensures) in
    rw (c.push.ensures.items, blank, c.whole_ant.ensures, c.cell-cell.ensures.content) refl

-- and of those whose ants decide the checks
noted : (c : After-note_checks) → c.note_checks.new.list.items ≡ calm_reads (world_of c.args.base.now).cells c.args.step.from c.args.step.to
noted c =
    let cells : Cells = (world_of c.args.base.now).cells in
    c.note_checks.ensures ∙ ap (λ list. all_sighted list (sightings_of cells (only part.Who) (seen_from cells c.args.step.from c.args.step.to))) (own (goal.at.After-note_checks c).After-push)

pub cell-cell-requires : goal.cell-cell-requires
cell-cell-requires c = inner_inside (acting-inner (acting (goal.at.cell-cell-requires c).Start))

pub note_checks-requires-clause-beside : goal.note_checks-requires-clause-beside
note_checks-requires-clause-beside c = within-there (acting (goal.at.note_checks-requires-clause-beside c).Start) c.requires.goes.way

pub note_checks-requires-clause-room : goal.note_checks-requires-clause-room
note_checks-requires-clause-room c =
    rw (own (goal.at.note_checks-requires-clause-room c).After-push) (calm-room (acting (goal.at.note_checks-requires-clause-room c).Start) c.requires.goes.way)

-- nothing was recorded of what it writes
unwritten : (c : After-push) → c.self.inside.writes.items ≡ []
unwritten c = ap (λ (l : LookValue). l.writes) (c.self.view_is ∙ c.begin.ensures)

pub invariant_of-self : goal.invariant_of-self
invariant_of-self c =
    let at = (goal.at.invariant_of-self c).After-note_checks in
    let before = (goal.at.invariant_of-self c).After-push in
    record {
      reads = subst (λ list. EachOnce (seen_positions list)) (sym (noted at)) (calm-once (world_of c.args.base.now).cells c.args.step.from c.args.step.to);
      writes = subst (λ list. EachOnce (seen_positions list)) (sym (unwritten before)) tt;
    }

-- the instruction of the ant that was found
abbrev state : (c : Start) → Ant → ℕ
state c ant = state_gone (instruction_at (mind_of (minds_of c.args.brains) ant.colour) ant.state)

-- what is recorded of what it writes
written : (c : After-push-3) →
    c.push-3.new.self.items ≡ calm_writes (minds_of c.args.brains).sheet (world_of c.args.base.now).cells c.args.step.from c.requires.goes.ant c.args.step.to (state (goal.at.After-push-3 c).Start c.requires.goes.ant)
written c =
    let before = (goal.at.After-push-3 c).After-push in
    let begin = (goal.at.After-push-3 c).Start in
    rw (
      c.push-3.ensures.items,
      c.push-2.ensures.items,
      unwritten before,
      c.whole_ant-2.ensures,
      c.whole_ant-3.ensures,
      c.state_gone-state.ensures,
      c.instruction.ensures.instruction,
      c.rest-resting.ensures,
      c.cell-cell.ensures.content,
      c.cell-there.ensures.content,
    ) (ap (λ (ant : Ant). calm_writes (minds_of c.args.brains).sheet (world_of c.args.base.now).cells c.args.step.from ant c.args.step.to (state begin ant)) (found before))

pub invariant_of-self-2 : goal.invariant_of-self-2
invariant_of-self-2 c =
    let at = (goal.at.invariant_of-self-2 c).After-note_checks in
    let after = (goal.at.invariant_of-self-2 c).After-push-3 in
    let begin = (goal.at.invariant_of-self-2 c).Start in
    record {
      reads = subst (λ list. EachOnce (seen_positions list)) (sym (noted at)) (calm-once (world_of c.args.base.now).cells c.args.step.from c.args.step.to);
      writes = subst (λ list. EachOnce (seen_positions list)) (sym (written after)) (calm-writes_once (acting begin) c.requires.goes.way (state begin c.requires.goes.ant));
    }

pub returns-clause-look : goal.returns-clause-look
returns-clause-look c =
    let at = (goal.at.returns-clause-look c).After-note_checks in
    let before = (goal.at.returns-clause-look c).After-push in
    let after = (goal.at.returns-clause-look c).After-push-3 in
    let begin = (goal.at.returns-clause-look c).Start in
    let cells : Cells = (world_of c.args.base.now).cells in
    let made : List Sighting → List Sighting → LookValue = λ reads writes. record { turn = c.args.id; guess = c.args.stream.now.place; drew = false; reads = reads; writes = writes; killed = [] } in
    let foe : c.foe.result ≡ foe_of c.requires.goes.ant.colour = c.foe.ensures ∙ ap (λ (ant : Ant). foe_of ant.colour) (found before) in
    let none : AreNoneOf (foe_of c.requires.goes.ant.colour) (calm_reads cells c.args.step.from c.args.step.to) =
    subst (λ colour. AreNoneOf colour (calm_reads cells c.args.step.from c.args.step.to)) foe
    (subst (AreNoneOf c.foe.result) (c.as_slice.ensures.value ∙ noted at) (c.are_none_of.ensures c.if-not-are_none_of.false)) in
    let some : 4 ≤ c.args.brains.sheet.surround = c.args.brains.sheet.enough in
    ap (λ (l : LookValue). record l { reads = c.note_checks.new.list.items; writes = c.push-3.new.self.items }) (c.self.view_is ∙ c.begin.ensures ∙ ap (blank_look c.args.id) c.place.ensures)
    ∙ ap₂ made (noted at) (written after)
    ∙ sym (look-calm (acting begin) c.requires.goes.way (omega (arith, some)) none)

pub note_checks-requires-clause-alone : goal.note_checks-requires-clause-alone
note_checks-requires-clause-alone c = own (goal.at.note_checks-requires-clause-alone c).After-push

pub fight-requires-clause-begun : goal.fight-requires-clause-begun
fight-requires-clause-begun c =
    let at = (goal.at.fight-requires-clause-begun c).After-note_checks in
    let recorded : List Sighting → LookValue = λ reads. record { turn = c.args.id; guess = c.args.stream.now.place; drew = false; reads = reads; writes = []; killed = [] } in
    ap (λ (l : LookValue). record l { reads = c.note_checks.new.list.items }) (c.self.view_is ∙ c.begin.ensures ∙ ap (blank_look c.args.id) c.place.ensures) ∙ ap recorded (noted at)
