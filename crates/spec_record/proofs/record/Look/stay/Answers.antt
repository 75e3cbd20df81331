-- the look at an ant that stays
use Rattle.std.proofs.Common.{◌≤◌, ℕ, List, [], ◌∷◌, sym, ◌∙◌, ap, subst}
use Rattle.hex_geometry.specs.declared.position.Pos.{Pos}
use Rattle.hex_geometry.specs.Position.{IsInside}
use Rattle.cell_world.specs.declared.cell.Cell.{Cell}
use Rattle.cell_world.specs.Grid.{world_of}
use Rattle.cell_world.specs.declared.part.Part.TheVariants as part
use Rattle.cell_world.specs.Limits.{most_weight}
use Rattle.cell_world.specs.Parts.{only, union}
use Rattle.cell_world.specs.World.{Cells}
use Rattle.cell_world.proofs.Puts.{put_cell-same}
use Rattle.cell_world.proofs.Weights.{food-light}
use Rattle.spec_record.specs.Look.{LookValue}
use Rattle.spec_record.specs.Inner.Stays.{staying_reads, written_besides}
use Rattle.spec_record.proofs.LookLemmas.{read_at-inside, stays-seeing}
use Rattle.spec_record.proofs.record.Look.stay.Goals as goal

pub cell-there-requires : goal.cell-there-requires
cell-there-requires c =
    subst (λ (q : Pos). IsInside c.args.base.now.width c.args.base.now.height q) (sym c.read_at-at.ensures)
    (read_at-inside c.args.actor.place c.args.actor.ant.now c.args.instruction c.requires.inner)

pub turn_in_place-after-requires-clause-light : goal.turn_in_place-after-requires-clause-light
turn_in_place-after-requires-clause-light c =
    subst (λ (cell : Cell). cell.food ≤ most_weight) (sym c.requires.own) (food-light (world_of c.args.base.now) c.args.actor.place c.requires.valid)

pub returns-clause-look : goal.returns-clause-look
returns-clause-look c sheet =
    let cells : Cells = (world_of c.args.base.now).cells in
    let seen = c.cell-there.ensures.content ∙ ap cells c.read_at-at.ensures in
    let is = c.turn_in_place-after.ensures.outcome sheet cells c.args.actor.place c.requires.own (stays-seeing cells c.args.actor.place c.args.actor.ant.now c.cell-there.result c.args.instruction seen c.requires.stays) in
    let done : LookValue = record {
      turn = c.args.id;
      guess = c.args.stream.now.place;
      drew = c.turn_in_place-after.result.drew;
      reads = staying_reads cells c.args.actor.place c.args.actor.ant.now c.args.instruction;
      writes = (c.args.actor.place, union (only part.Mind) (written_besides c.args.actor.ant.now.colour c.args.instruction), c.turn_in_place-after.result.cell) ∷ [];
      killed = [];
    } in
    rw (
      is,
      c.note_two.ensures,
      c.note_alone.ensures,
      c.union-written.ensures,
      c.mind.ensures,
      c.written_besides.ensures,
      c.who_and_mind.ensures,
      c.place-guess.ensures,
      c.read_parts.ensures,
      seen,
      c.read_at-at.ensures,
      c.requires.own,
      put_cell-same cells c.args.actor.place c.turn_in_place-after.result.cell,
    ) (ap (λ (killed : List ℕ). record done { killed = killed }) c.clear.ensures)
