-- Edges of breaks, and the text of a view, worked out.
use Rattle.std.proofs.Common.{◌≡◌, true, false, [], ◌∷◌, Some, None, codes, refl, arith}
use Rattle.std.specs.Fmt.{digits}
use Rattle.hex_geometry.specs.Position.{same_pos}
use Rattle.cell_world.specs.declared.ant.Colour.TheVariants.{Red, Black}
use Rattle.cell_world.specs.declared.kind.Kind.TheVariants.{Rock, RedHill}
use Rattle.cell_world.specs.Cell.{rock}
use Rattle.cell_world.specs.Grid.{cell_in, world_of}
use Rattle.cell_world.specs.Opening.{floor, new_ant, opening}
use Rattle.cell_world.specs.Score.{hill_food_of}
use Rattle.cell_world.specs.World.{World, place_in, put, put_cell}
use Rattle.dump_print.specs.Texts.{seed_text}
use Rattle.ant_base.specs.Number.{decimal_value}
use Rattle.break_view.specs.declared.breaks.Break.TheVariants as break
use Rattle.break_view.specs.Grammar.{IsBreakText}
use Rattle.break_view.specs.Met.{is_met}
use Rattle.break_view.specs.Texts.{no_stop_line, stop_line, view_text}

-- two red ants; the one of id 0 is in state 4, carries food and stands on two particles
abbrev fed : World
fed = put (world_of (opening 4 3 (Rock ∷ Rock ∷ Rock ∷ Rock ∷ Rock ∷ RedHill ∷ RedHill ∷ Rock ∷ Rock ∷ Rock ∷ Rock ∷ Rock ∷ []))) (record { x = 1; y = 1 })
    (record floor { hill = Some Red; food = 2; ant = Some (record (new_ant Red 0) { state = 4; laden = true }) })

-- State is that very state, of the ant whose turn it was
state_alone : (is_met (break.State Red 4) fed 1 0 ≡ true) × (is_met (break.State Red 3) fed 1 0 ≡ false) × (is_met (break.State Red 4) fed 1 1 ≡ false)
unfolding opening cell_in rock floor place_in put_cell same_pos
state_alone = (refl, refl, refl)

-- Food and Score hold from this much on, also under an ant, and don't count what it carries
from_so_much_on : (is_met (break.Food 1 1 1) fed 1 0 ≡ true) × (is_met (break.Food 1 1 2) fed 1 0 ≡ true) × (is_met (break.Food 1 1 3) fed 1 0 ≡ false)
    × (is_met (break.Score Red 1) fed 1 0 ≡ true) × (is_met (break.Score Red 2) fed 1 0 ≡ true) × (is_met (break.Score Red 3) fed 1 0 ≡ false)
unfolding opening cell_in rock floor hill_food_of put_cell same_pos
from_so_much_on = (refl, refl, refl, refl, refl, refl)

-- Stand is any ant's, whosever turn it was; Round any turn's of the round
any_ant_any_turn : (is_met (break.Stand Red 1 1) fed 1 1 ≡ true) × (is_met (break.Stand Red 2 1) fed 1 0 ≡ true) × (is_met (break.Round 3) fed 3 1 ≡ true)
unfolding opening cell_in rock floor put_cell same_pos
any_ant_any_turn = (refl, refl, refl)

-- a score of 0 is reached without food, and without a hill
no_score : (is_met (break.Score Black 0) fed 1 0 ≡ true) × (is_met (break.Score Black 1) fed 1 0 ≡ false)
unfolding opening cell_in rock floor hill_food_of put_cell same_pos
no_score = (refl, refl)

-- the line of a stop, and that of a game without one
stop_told : (stop_line (record { round = 1; id = 20; which = 3 }) ≡ codes "stop: round 1, ant 20, break 3\n") × (no_stop_line 9 ≡ codes "no stop in 9 rounds\n") × (no_stop_line 1 ≡ codes "no stop in 1 rounds\n")
unfolding digits stop_line no_stop_line
stop_told = (refl, refl, refl)

-- the view of a game without a stop: no cells
no_stop_told : view_text fed 7 9 None ≡ codes "random seed: 7\nno stop in 9 rounds\n"
unfolding digits seed_text no_stop_line view_text
no_stop_told = refl

-- a line of Food gives the column, the row, and then how much at least
food_line : IsBreakText (codes "Food 1 2 3") (break.Food 1 2 3 ∷ [])
unfolding decimal_value
food_line = record { lines = (record { spelled = (refl, (refl, (refl, (refl, tt)))); in_range = (tt, (omega arith, (omega arith, (omega arith, tt)))) }, tt); few = omega arith }
