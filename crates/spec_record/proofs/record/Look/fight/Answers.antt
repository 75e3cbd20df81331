-- the look at an ant that goes where foes are near
use Rattle.std.proofs.Common.{◌≡◌, [], sym, ◌∙◌, ap}
use Rattle.hex_geometry.proofs.Places.{inner_inside}
use Rattle.cell_world.specs.Grid.{world_of}
use Rattle.cell_world.specs.World.{Cells, World}
use Rattle.ant_turn.specs.Minds.{minds_of}
use Rattle.ant_turn.specs.Turn.{Outcome, turn}
use Rattle.spec_record.specs.Look.{LookValue}
use Rattle.spec_record.specs.Trail.{trail_world}
use Rattle.spec_record.specs.Inner.Moves.{calm_reads, going_reads, going_writes}
use Rattle.spec_record.proofs.LookLemmas.{GoingActs, acting-goes, goes-reads_once, goes-writes_once, look-goes, near-there, inner-there, acting-inner, reads-there, spared-there, writes-there}
use Rattle.spec_record.proofs.record.Look.fight.Goals as goal
use Rattle.spec_record.proofs.record.Look.fight.Goals.{After-execute-trail, Start}

-- the ant acts
acting : (c : Start) → GoingActs (minds_of c.args.brains) c.args.stream.now.seed (world_of c.args.base.now) c.args.stream.now.place c.args.id c.args.step.from c.args.step.to c.requires.goes
acting c = acting-goes (minds_of c.args.brains) c.args.stream.now.seed (world_of c.args.base.now) c.args.stream.now.place c.args.id c.args.step.from c.args.step.to c.requires.goes c.requires.valid

-- the outcome of the turn, as it is executed on the trail
abbrev executed : After-execute-trail → Outcome
executed c = turn (minds_of c.args.brains) c.args.stream.now.seed (world_of c.args.base.now) c.args.stream.now.place c.args.id

-- the cells of the trail are those of the outcome
left : (c : After-execute-trail) → (trail_world c.execute-trail.result).cells ≡ (executed c).cells
left c = ap (λ (w : World). w.cells) c.execute-trail.ensures.world

-- what is recorded when the turn was executed
recorded : (c : After-execute-trail) → c.execute-trail.new.self ≡ record {
  turn = c.args.id;
  guess = c.args.stream.now.place;
  drew = (executed c).drew;
  reads = calm_reads (world_of c.args.base.now).cells c.args.step.from c.args.step.to;
  writes = [];
  killed = (executed c).killed;
}
recorded c =
    let o = executed c in
    c.execute-trail.ensures.look ∙ ap (λ (l : LookValue). record l { drew = o.drew; killed = o.killed }) c.requires.begun

pub record_fight-requires-clause-inside : goal.record_fight-requires-clause-inside
record_fight-requires-clause-inside c = inner_inside (acting-inner (acting (goal.at.record_fight-requires-clause-inside c).Start))

pub record_fight-requires-clause-inner : goal.record_fight-requires-clause-inner
record_fight-requires-clause-inner c = inner-there (acting (goal.at.record_fight-requires-clause-inner c).Start) c.requires.goes.way

pub record_fight-requires-clause-near : goal.record_fight-requires-clause-near
record_fight-requires-clause-near c = near-there (acting (goal.at.record_fight-requires-clause-near c).Start) c.requires.goes.way

pub record_fight-requires-clause-reads_once : goal.record_fight-requires-clause-reads_once
record_fight-requires-clause-reads_once c =
    let at = (goal.at.record_fight-requires-clause-reads_once c).After-execute-trail in
    goes-reads_once (acting (goal.at.record_fight-requires-clause-reads_once c).Start) c.requires.goes.way (trail_world c.execute-trail.result).cells (left at)

pub record_fight-requires-clause-writes_once : goal.record_fight-requires-clause-writes_once
record_fight-requires-clause-writes_once c =
    let at = (goal.at.record_fight-requires-clause-writes_once c).After-execute-trail in
    goes-writes_once (acting (goal.at.record_fight-requires-clause-writes_once c).Start) c.requires.goes.way (trail_world c.execute-trail.result).cells (left at)

pub record_fight-requires-clause-reads_room : goal.record_fight-requires-clause-reads_room
record_fight-requires-clause-reads_room c = reads-there (acting (goal.at.record_fight-requires-clause-reads_room c).Start) c.requires.goes.way (trail_world c.execute-trail.result).cells

pub record_fight-requires-clause-writes_room : goal.record_fight-requires-clause-writes_room
record_fight-requires-clause-writes_room c = writes-there (acting (goal.at.record_fight-requires-clause-writes_room c).Start) c.requires.goes.way (trail_world c.execute-trail.result).cells

pub record_fight-requires-clause-spared : goal.record_fight-requires-clause-spared
record_fight-requires-clause-spared c none =
    let at = (goal.at.record_fight-requires-clause-spared c).After-execute-trail in
    spared-there (acting (goal.at.record_fight-requires-clause-spared c).Start) c.requires.goes.way (trail_world c.execute-trail.result).cells (left at) (ap (λ (l : LookValue). l.killed) (sym (recorded at)) ∙ none)

pub returns-clause-look : goal.returns-clause-look
returns-clause-look c =
    let at = (goal.at.returns-clause-look c).After-execute-trail in
    let cells : Cells = (world_of c.args.base.now).cells in
    let last : Cells = (trail_world c.execute-trail.result).cells in
    c.record_fight.ensures
    ∙ ap (λ (l : LookValue). record l { reads = going_reads cells last c.args.step.from c.args.step.to; writes = going_writes cells last c.args.step.from c.args.step.to }) (recorded at)
    ∙ sym (look-goes (acting (goal.at.returns-clause-look c).Start) c.requires.goes.way last (left at))
