use Rattle.std.proofs.Common.{◌≡◌, List, [], ◌∷◌, refl, sym, ◌∙◌, ap, ap₂, subst}
use Rattle.cell_world.specs.Grid.{world_of}
use Rattle.cell_world.specs.World.{Cells}
use Rattle.spec_record.specs.Claims.{EachOnce, Sighting, seen_positions}
use Rattle.spec_record.specs.Look.{LookValue}
use Rattle.spec_record.specs.Reads.{ant_and_food, load_and_food, whole_ant}
use Rattle.spec_record.specs.Trail.{trail_world}
use Rattle.spec_record.specs.Inner.Moves.{fallen, going_reads, going_writes}
use Rattle.spec_record.specs.Inner.Sightings.{all_sighted, sightings_of}
use Rattle.spec_record.proofs.record.Look.record_fight.Goals as goal
use Rattle.spec_record.proofs.record.Look.record_fight.Goals.{After-note_fallen}

-- what is recorded of what it reads where ants were killed
read : (c : After-note_fallen) → c.note_fallen.new.reads.items ≡ going_reads (world_of c.args.base.now).cells (trail_world c.args.trail.now).cells c.args.step.from c.args.step.to
read c =
    let cells : Cells = (world_of c.args.base.now).cells in
    let last : Cells = (trail_world c.args.trail.now).cells in
    c.note_fallen.ensures.reads
    ∙ ap (λ (l : List Sighting). all_sighted l (sightings_of cells load_and_food (fallen cells last c.args.step.from c.args.step.to))) (ap (λ (l : LookValue). l.reads) c.self.view_is ∙ c.requires.reads)

-- and of what it writes
written : (c : After-note_fallen) → c.note_fallen.new.writes.items ≡ going_writes (world_of c.args.base.now).cells (trail_world c.args.trail.now).cells c.args.step.from c.args.step.to
written c =
    let cells : Cells = (world_of c.args.base.now).cells in
    let last : Cells = (trail_world c.args.trail.now).cells in
    let none : c.self.inside.writes.items ≡ [] = ap (λ (l : LookValue). l.writes) c.self.view_is ∙ c.requires.writes in
    let two : c.push-2.new.self.items ≡ (c.args.step.from, whole_ant, last c.args.step.from) ∷ (c.args.step.to, whole_ant, last c.args.step.to) ∷ [] =
    rw (c.push-2.ensures.items, c.push.ensures.items, none, c.whole_ant.ensures, c.whole_ant-2.ensures, c.cell.ensures.content, c.cell-2.ensures.content) refl in
    c.note_fallen.ensures.writes ∙ ap (λ (l : List Sighting). all_sighted l (sightings_of last ant_and_food (fallen cells last c.args.step.from c.args.step.to))) two

pub invariant_of-self : goal.invariant_of-self
invariant_of-self c = record {
  reads = subst (λ (l : List Sighting). EachOnce (seen_positions l)) (sym (read c)) c.requires.reads_once;
  writes = subst (λ (l : List Sighting). EachOnce (seen_positions l)) (sym (written c)) c.requires.writes_once;
}

pub returns-then-not-is_empty : goal.returns-then-not-is_empty
returns-then-not-is_empty c =
    ap (λ (l : LookValue). record l { reads = c.note_fallen.new.reads.items; writes = c.note_fallen.new.writes.items }) c.self.view_is
    ∙ ap₂ (λ (reads writes : List Sighting). record c.args.self.now { reads = reads; writes = writes }) (read c) (written c)
