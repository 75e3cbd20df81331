-- Looks on two worlds that differ where the turn doesn't read.
use Rattle.std.proofs.Common.{◌≡◌, List, [], ◌∷◌, Some, refl, sym, subst}
use Rattle.std.proofs.lemmas.Option.{same_Some}
use Rattle.hex_geometry.specs.declared.position.Pos.{Pos}
use Rattle.hex_geometry.specs.Neighbourhood.{adjacent_pos}
use Rattle.hex_geometry.specs.Position.{same_pos}
use Rattle.cell_world.specs.declared.ant.Ant.{Ant}
use Rattle.cell_world.specs.declared.ant.Colour.TheVariants.{Black}
use Rattle.cell_world.specs.declared.kind.Kind.{Kind}
use Rattle.cell_world.specs.declared.kind.Kind.TheVariants.{Rock, Clear, RedHill, BlackHill, Food}
use Rattle.cell_world.specs.Cell.{rock}
use Rattle.cell_world.specs.Grid.{cell_in, world_of}
use Rattle.cell_world.specs.Opening.{floor, new_ant, opening}
use Rattle.cell_world.specs.World.{World, place_in}
use Rattle.cell_world.proofs.OpeningValid.{IsWorld-opening}
use Rattle.cell_world.proofs.Plans.{IsPlan-test}
use Rattle.brain_read.specs.declared.instr.Instr.TheVariants.{Drop, Flip, Move}
use Rattle.ant_turn.specs.Minds.{Minds, contest_minds, mind_of}
use Rattle.ant_turn.specs.Turn.{instruction_at}
use Rattle.spec_record.specs.Claims.{merged}
use Rattle.spec_record.specs.Look.{look_of}
use Rattle.spec_record.specs.Reads.{reads}
use Rattle.spec_record.specs.SameLooks.{SameForLook}
use Rattle.spec_record.proofs.LooksWorked.{field, minds}
use Rattle.spec_record.proofs.SameLooks.{looks_agree}

-- the field, with food on (1, 1), and without a hill for the two ants of the lowest row
abbrev elsewhere_kinds : List Kind
elsewhere_kinds =
    Rock ∷ Rock ∷ Rock ∷ Rock ∷ Rock ∷ Rock ∷ Rock
    ∷ Rock ∷ Food 3 ∷ Clear ∷ Clear ∷ Clear ∷ Clear ∷ Rock
    ∷ Rock ∷ Clear ∷ Clear ∷ BlackHill ∷ Rock ∷ Clear ∷ Rock
    ∷ Rock ∷ BlackHill ∷ Clear ∷ RedHill ∷ BlackHill ∷ Rock ∷ Rock
    ∷ Rock ∷ Clear ∷ Clear ∷ Clear ∷ BlackHill ∷ Rock ∷ Rock
    ∷ Rock ∷ Rock ∷ Rock ∷ Rock ∷ Rock ∷ Rock ∷ Rock ∷ []

abbrev pub elsewhere : World
elsewhere = world_of (opening 7 6 elsewhere_kinds)

-- another red brain, and a black one that has one instruction more
abbrev pub others : Minds
others = contest_minds (Drop 0 ∷ []) (Move 0 0 ∷ Flip 2 0 0 ∷ [])

-- the turn of the ant of id 0 reads its own cell and the rock ahead: its looks are the same, whatever else is different
pub blocked-same : SameForLook minds others field elsewhere 0
unfolding reads merged same_pos adjacent_pos opening cell_in rock floor place_in
blocked-same = record {
  valid = (IsWorld-opening 7 6 elsewhere_kinds (IsPlan-test 7 6 elsewhere_kinds refl)).valid;
  sheet = refl;
  dead = λ dead. absurd (cc);
  cells = (refl, (refl, tt));
  instruction = λ p ant found is.
      let here : record { x = 3; y = 2 } ≡ p = same_Some (record { x = 3; y = 2 }) p found in
      let it : new_ant Black 0 ≡ ant = same_Some (new_ant Black 0) ant (subst (λ (q : Pos). (field.cells q).ant ≡ Some ant) (sym here) is) in
      subst (λ (a : Ant). instruction_at (mind_of others a.colour) a.state ≡ instruction_at (mind_of minds a.colour) a.state) it refl;
}

looks-same : look_of others 12345 elsewhere 0 0 ≡ look_of minds 12345 field 0 0
looks-same = looks_agree minds others 12345 field elsewhere 0 0 blocked-same
