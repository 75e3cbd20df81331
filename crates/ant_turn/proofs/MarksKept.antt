-- Whose markers a turn changes, and where.
use Rattle.std.proofs.Common.{◌≡◌, inl, inr, ℕ, Some, refl, sym, ◌∙◌, ap, subst}
use Rattle.hex_geometry.specs.declared.position.Pos.{Pos}
use Rattle.hex_geometry.specs.Neighbourhood.{adjacent_pos}
use Rattle.cell_world.specs.declared.ant.Ant.{Ant}
use Rattle.cell_world.specs.declared.ant.Colour.{Colour}
use Rattle.cell_world.specs.declared.ant.Colour.TheVariants.{Red, Black}
use Rattle.cell_world.specs.Cell.{marks_of}
use Rattle.cell_world.specs.Colour.{foe_of}
use Rattle.cell_world.specs.World.{Cells, World, place_in, put}
use Rattle.cell_world.proofs.ValidLemmas.{put_cell-all}
use Rattle.brain_read.specs.declared.instr.Instr.{Instr}
use Rattle.ant_turn.specs.Kills.{check_all, places_around}
use Rattle.ant_turn.specs.Minds.{Minds, mind_of}
use Rattle.ant_turn.specs.Sheet.{Sheet}
use Rattle.ant_turn.specs.Turn.{Outcome, acts, arrived, instruction_at, left_by_ant, stepped, turn, with_ant}
use Rattle.ant_turn.proofs.KeptByChecks.{Outlives, check_all-outlives}
use Rattle.ant_turn.proofs.OwnCells.{same_marks}
use Rattle.ant_turn.proofs.TurnParts.{Does, acts_parts}
use Rattle.ant_turn.proofs.Turns.{turn-acts}

-- the other colour is the foe's
other_colour : (own colour : Colour) → (colour ≡ own → ⊥) → colour ≡ foe_of own
other_colour Red Black other = refl
other_colour Black Red other = refl
other_colour it that other = absurd (other refl)

-- a step changes no marker
stepped-marks : (sheet : Sheet) (w : World) (p : Pos) (ant : Ant) (ahead : Pos) (next : ℕ) (colour : Colour) (q : Pos) → marks_of colour (stepped sheet w.cells p ant ahead next q) ≡ marks_of colour (w.cells q)
unfolding stepped
stepped-marks sheet w p ant ahead next colour q =
    put_cell-all (put w p (left_by_ant (w.cells p))) ahead (with_ant (w.cells ahead) (arrived sheet ant next)) (λ r c. marks_of colour c ≡ marks_of colour (w.cells r)) (same_marks colour (w.cells ahead) (with_ant (w.cells ahead) (arrived sheet ant next)) refl refl)
    (λ r _. put_cell-all w p (left_by_ant (w.cells p)) (λ s c. marks_of colour c ≡ marks_of colour (w.cells s)) (same_marks colour (w.cells p) (left_by_ant (w.cells p)) refl refl) (λ s _. refl) r) q

-- an ant that stays or goes changes none but its own colour's on its own cell
does-marks : (instruction : Instr) (sheet : Sheet) (w : World) (p : Pos) (ant : Ant) (outcome : Outcome) (colour : Colour) (q : Pos) → Does instruction sheet w.cells p ant outcome → (colour ≡ ant.colour → q ≡ p → ⊥) → marks_of colour (outcome.cells q) ≡ marks_of colour (w.cells q)
does-marks instruction sheet w p ant outcome colour q (inl stayed) away =
    ap (λ (now : Cells). marks_of colour (now q)) stayed.cells_after ∙ put_cell-all w p stayed.new (λ r c. (colour ≡ ant.colour → r ≡ p → ⊥) → marks_of colour c ≡ marks_of colour (w.cells r))
    (λ here. subst (λ other. marks_of other stayed.new ≡ marks_of other (w.cells p)) (sym (other_colour ant.colour colour (λ own. here own refl))) stayed.stays.foe_marks)
    (λ r _ _. refl) q away
does-marks instruction sheet w p ant outcome colour q (inr went) away =
    let ahead : Pos = adjacent_pos p ant.facing in
    let there : Cells = stepped sheet w.cells p ant ahead went.next in
    let after : Outlives (there q) (check_all sheet there (places_around ahead) q) = check_all-outlives sheet (places_around ahead) there q in
    ap (λ (o : Outcome). marks_of colour (o.cells q)) went.is
    ∙ same_marks colour (there q) (check_all sheet there (places_around ahead) q) after.same_red after.same_black
    ∙ stepped-marks sheet w p ant ahead went.next colour q

-- a turn changes none but those
pub turn-marks : (minds : Minds) (seed : ℕ) (w : World) (place t : ℕ) (p : Pos) (ant : Ant) (colour : Colour) (q : Pos) → place_in w t ≡ Some p → (w.cells p).ant ≡ Some ant → (colour ≡ ant.colour → q ≡ p → ⊥) → marks_of colour ((turn minds seed w place t).cells q) ≡ marks_of colour (w.cells q)
turn-marks minds seed w place t p ant colour q found is away =
    rw (turn-acts minds seed w place t p ant found is)
    (does-marks (instruction_at (mind_of minds ant.colour) ant.state) minds.sheet w p ant (acts ant.resting minds seed w.cells place p ant) colour q (acts_parts minds seed w.cells place p ant ant.resting) away)
