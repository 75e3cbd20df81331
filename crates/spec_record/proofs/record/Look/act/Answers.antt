-- the look at an ant that executes its instruction and stays, or goes
use Rattle.std.proofs.Common.{refl, sym, ◌∙◌, ap}
use Rattle.cell_world.specs.Grid.{world_of}
use Rattle.cell_world.specs.World.{Cells}
use Rattle.ant_turn.specs.Minds.{minds_of}
use Rattle.ant_turn.specs.Turn.{Outcome, turn}
use Rattle.spec_record.specs.Look.{look_with}
use Rattle.spec_record.specs.Inner.Moves.{destination}
use Rattle.spec_record.specs.Inner.Stays.{staying_reads, staying_writes}
use Rattle.spec_record.proofs.LookLemmas.{Acting, acting-executes, acting-inner, acting-near, look-stays, stays-once}
use Rattle.spec_record.proofs.record.Look.act.Goals as goal
use Rattle.spec_record.proofs.record.Look.act.Goals.{After-instruction-instruction}

-- the outcome of the turn
abbrev outcome : After-instruction-instruction → Outcome
outcome c = turn (minds_of c.args.brains) c.args.stream.now.seed (world_of c.args.base.now) c.args.stream.now.place c.args.id

-- the ant acts
acting : (c : After-instruction-instruction) →
    Acting (minds_of c.args.brains) c.args.stream.now.seed (world_of c.args.base.now) c.args.stream.now.place c.args.id c.args.actor.place c.args.actor.ant.now c.instruction-instruction.result (outcome c)
acting c = record {
  valid = c.requires.valid;
  found = c.requires.found;
  holds = c.requires.holds;
  ready = c.requires.ready;
  at = c.instruction-instruction.ensures.instruction;
  is = refl;
}

pub destination-requires-clause-inner : goal.destination-requires-clause-inner
destination-requires-clause-inner c = acting-inner (acting (goal.at.destination-requires-clause-inner c).After-instruction-instruction)

pub destination-requires-clause-near : goal.destination-requires-clause-near
destination-requires-clause-near c = acting-near (acting (goal.at.destination-requires-clause-near c).After-instruction-instruction)

pub stay-requires-clause-inner : goal.stay-requires-clause-inner
stay-requires-clause-inner c = acting-inner (acting (goal.at.stay-requires-clause-inner c).After-instruction-instruction)

pub stay-requires-clause-near : goal.stay-requires-clause-near
stay-requires-clause-near c = acting-near (acting (goal.at.stay-requires-clause-near c).After-instruction-instruction)

pub stay-requires-clause-reads_once : goal.stay-requires-clause-reads_once
stay-requires-clause-reads_once c =
    let at = (goal.at.stay-requires-clause-reads_once c).After-instruction-instruction in
    stays-once (acting at) (outcome at).cells refl (sym c.destination.ensures ∙ c.in-None.is)

pub returns-in-None-clause-look : goal.returns-in-None-clause-look
returns-in-None-clause-look c =
    let at = (goal.at.returns-in-None-clause-look c).After-instruction-instruction in
    let cells : Cells = (world_of c.args.base.now).cells in
    let i = c.instruction-instruction.result in
    c.stay.ensures.look (minds_of c.args.brains).sheet
    ∙ ap (λ (o : Outcome). look_with c.args.id c.args.stream.now.place o (staying_reads cells c.args.actor.place c.args.actor.ant.now i) (staying_writes o.cells c.args.actor.place c.args.actor.ant.now i)) (sym (acting-executes (acting at)))
    ∙ sym (look-stays (acting at) (outcome at).cells refl (sym c.destination.ensures ∙ c.in-None.is))
