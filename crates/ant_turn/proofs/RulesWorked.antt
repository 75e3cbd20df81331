-- Each instruction and each condition, worked out on one cell, for both colours.
use Rattle.std.proofs.Common.{◌≡◌, ℕ, Bool, true, false, List, [], ◌∷◌, Some, map, refl}
use Rattle.hex_geometry.specs.declared.direction.Dir.TheVariants.{East, NorthEast, SouthEast}
use Rattle.hex_geometry.specs.declared.direction.Side.TheVariants.{Left, Right}
use Rattle.hex_geometry.specs.declared.neighbourhood.Sight.TheVariants.{Here, Ahead, LeftAhead, RightAhead}
use Rattle.hex_geometry.specs.declared.position.Pos.{Pos}
use Rattle.hex_geometry.specs.Direction.{directions, turned_by}
use Rattle.hex_geometry.specs.Neighbourhood.{adjacent_pos, neighbours_of, sensed_pos}
use Rattle.hex_geometry.specs.Position.{same_pos}
use Rattle.cell_world.specs.declared.ant.Ant.{Ant}
use Rattle.cell_world.specs.declared.ant.Colour.{Colour}
use Rattle.cell_world.specs.declared.ant.Colour.TheVariants.{Red, Black}
use Rattle.cell_world.specs.declared.cell.Cell.{Cell}
use Rattle.cell_world.specs.declared.kind.Kind.TheVariants.{Rock, RedHill}
use Rattle.cell_world.specs.Cell.{rock}
use Rattle.cell_world.specs.Grid.{cell_in, world_of}
use Rattle.cell_world.specs.Marks.{no_marks, with_mark}
use Rattle.cell_world.specs.Opening.{floor, opening}
use Rattle.cell_world.specs.World.{Cells, place_in, put_cell}
use Rattle.brain_read.specs.declared.instr.Cond.{Cond}
use Rattle.brain_read.specs.declared.instr.Cond.TheVariants.{Friend, Foe, FriendWithFood, FoeWithFood, Food, Rock as RockCondition, Marker, FoeMarker, Home, FoeHome}
use Rattle.brain_read.specs.declared.instr.Instr.{Instr}
use Rattle.brain_read.specs.declared.instr.Instr.TheVariants.{Sense, Mark, Unmark, PickUp, Drop, Turn, Move, Flip}
use Rattle.ant_random.specs.Stream.{drawn, random_at, state_at}
use Rattle.ant_turn.specs.Conditions.{meets}
use Rattle.ant_turn.specs.Kills.{check_at, is_surrounded, killed_at, places_around}
use Rattle.ant_turn.specs.Minds.{contest_minds}
use Rattle.ant_turn.specs.Rounds.{after_round, after_rounds, after_turn, start_of}
use Rattle.ant_turn.specs.Sheet.{contest}
use Rattle.ant_turn.specs.Turn.{execute, stepped, turn}

-- an ant that stands on (2, 2) and faces (3, 2), in state 4
abbrev here : Pos
here = record { x = 2; y = 2 }

abbrev ahead : Pos
ahead = record { x = 3; y = 2 }

abbrev ant_of : Colour → Bool → Ant
ant_of colour laden = record { id = 0; colour = colour; state = 4; resting = 0; facing = East; laden = laden }

-- another one, of id 1
abbrev other_of : Colour → Bool → Ant
other_of colour laden = record { id = 1; colour = colour; state = 0; resting = 0; facing = East; laden = laden }

-- these cells at the two places, and clear ones elsewhere
around : Cell → Cell → Cells
around own front = put_cell (put_cell (λ q. floor) ahead front) here own

-- the own cell after an instruction, with this ant on it and this cell ahead
after : Ant → Cell → Cell → Instr → Cell
after ant own front instruction = (execute contest 12345 (around (record own { ant = Some ant }) front) 0 here ant instruction).cells here

-- the ant in this state
abbrev then_in : Ant → ℕ → Cell → Cell
then_in ant state cell = record cell { ant = Some (record ant { state = state }) }

-- what is sensed: the own cell, the one ahead, and those ahead after a turn to the left and to the right
sensed_cells : map (sensed_pos here East) (Here ∷ Ahead ∷ LeftAhead ∷ RightAhead ∷ []) ≡ here ∷ ahead ∷ (record { x = 2; y = 1 }) ∷ (record { x = 2; y = 3 }) ∷ []
unfolding sensed_pos adjacent_pos turned_by directions
sensed_cells = refl

-- Sense goes to its first state where the cell meets the condition for the ant's own colour, and otherwise to its
-- second
sense-met : (colour : Colour) → after (ant_of colour false) floor (record floor { food = 1 }) (Sense Ahead 7 8 Food) ≡ then_in (ant_of colour false) 7 floor
unfolding after around put_cell same_pos sensed_pos adjacent_pos meets floor
sense-met Red = refl
sense-met Black = refl

sense-unmet : (colour : Colour) → after (ant_of colour false) floor floor (Sense Ahead 7 8 Food) ≡ then_in (ant_of colour false) 8 floor
unfolding after around put_cell same_pos sensed_pos adjacent_pos meets floor
sense-unmet Red = refl
sense-unmet Black = refl

sense-own_colour : (after (ant_of Red false) floor (record floor { ant = Some (other_of Red false) }) (Sense Ahead 7 8 Friend) ≡ then_in (ant_of Red false) 7 floor)
    × (after (ant_of Black false) floor (record floor { ant = Some (other_of Red false) }) (Sense Ahead 7 8 Friend) ≡ then_in (ant_of Black false) 8 floor)
unfolding after around put_cell same_pos sensed_pos adjacent_pos meets floor
sense-own_colour = (refl, refl)

-- Sense Here is of the own cell, and not of the one ahead
sense-here : after (ant_of Red false) (record floor { food = 1 }) floor (Sense Here 7 8 Food) ≡ then_in (ant_of Red false) 7 (record floor { food = 1 })
unfolding after around put_cell same_pos sensed_pos meets floor
sense-here = refl

-- Mark sets the own colour's marker on the own cell, and Unmark clears it
mark : (after (ant_of Red false) floor floor (Mark 3 7) ≡ then_in (ant_of Red false) 7 (record floor { red = with_mark no_marks 3 }))
    × (after (ant_of Black false) floor floor (Mark 3 7) ≡ then_in (ant_of Black false) 7 (record floor { black = with_mark no_marks 3 }))
unfolding after around put_cell same_pos floor
mark = (refl, refl)

-- a cell with marker 3 of both colours
abbrev marked_cell : Cell
marked_cell = record floor { red = with_mark no_marks 3; black = with_mark no_marks 3 }

unmark : (after (ant_of Red false) marked_cell floor (Unmark 3 7) ≡ then_in (ant_of Red false) 7 (record marked_cell { red = no_marks }))
    × (after (ant_of Black false) marked_cell floor (Unmark 3 7) ≡ then_in (ant_of Black false) 7 (record marked_cell { black = no_marks }))
unfolding after around put_cell same_pos floor
unmark = (refl, refl)

-- PickUp takes a particle and goes to its first state; if there is none, or the ant carries one, it goes to its second
-- and changes nothing else
pick_up : (after (ant_of Red false) (record floor { food = 2 }) floor (PickUp 7 8) ≡ then_in (ant_of Red true) 7 (record floor { food = 1 }))
    × (after (ant_of Red false) floor floor (PickUp 7 8) ≡ then_in (ant_of Red false) 8 floor)
    × (after (ant_of Red true) (record floor { food = 2 }) floor (PickUp 7 8) ≡ then_in (ant_of Red true) 8 (record floor { food = 2 }))
unfolding after around put_cell same_pos floor
pick_up = (refl, refl, refl)

-- Drop lays the particle down, if the ant carries one, and continues in any case
drop : (after (ant_of Black true) (record floor { food = 2 }) floor (Drop 7) ≡ then_in (ant_of Black false) 7 (record floor { food = 3 }))
    × (after (ant_of Black false) floor floor (Drop 7) ≡ then_in (ant_of Black false) 7 floor)
unfolding after around put_cell same_pos floor
drop = (refl, refl)

-- Turn Left takes direction 0 to 5, and Turn Right to 1
turn_left_and_right : (after (ant_of Red false) floor floor (Turn Left 7) ≡ then_in (record (ant_of Red false) { facing = NorthEast }) 7 floor)
    × (after (ant_of Red false) floor floor (Turn Right 7) ≡ then_in (record (ant_of Red false) { facing = SouthEast }) 7 floor)
unfolding after around put_cell same_pos floor turned_by
turn_left_and_right = (refl, refl)

-- a Move that is blocked, by rock or by an ant, goes to its second state
move-blocked : (after (ant_of Red false) floor rock (Move 7 8) ≡ then_in (ant_of Red false) 8 floor)
    × (after (ant_of Red false) floor (record floor { ant = Some (other_of Black false) }) (Move 7 8) ≡ then_in (ant_of Red false) 8 floor)
unfolding after around put_cell same_pos adjacent_pos floor rock
move-blocked = (refl, refl)

-- a Move that goes leaves its cell empty and stands ahead, in its first state, resting for 14 turns
move-goes : (after (ant_of Red true) floor floor (Move 7 8) ≡ floor)
    × ((execute contest 12345 (around (record floor { ant = Some (ant_of Red true) }) floor) 0 here (ant_of Red true) (Move 7 8)).cells ahead ≡ record floor { ant = Some (record (ant_of Red true) { state = 7; resting = 14 }) })
unfolding after around put_cell same_pos adjacent_pos stepped check_at is_surrounded killed_at places_around neighbours_of directions floor
move-goes = (refl, refl)

-- Flip 4 at place 0 of seed 12345 draws 7193 mod 4, which is 1; at place 1 it draws 2932 mod 4, which is 0
flip : ((execute contest 12345 (around (record floor { ant = Some (ant_of Red false) }) floor) 0 here (ant_of Red false) (Flip 4 7 8)).cells here ≡ then_in (ant_of Red false) 8 floor)
    × ((execute contest 12345 (around (record floor { ant = Some (ant_of Red false) }) floor) 1 here (ant_of Red false) (Flip 4 7 8)).cells here ≡ then_in (ant_of Red false) 7 floor)
unfolding around put_cell same_pos drawn random_at state_at floor
flip = (refl, refl)

-- what a condition says of a cell for a red and for a black ant
abbrev pub said : Cond → Cell → List Bool
said condition cell = map (meets cell condition) (Red ∷ Black ∷ [])

-- cells with an unladen red ant, with a laden black one
abbrev with_red : Cell
with_red = record floor { ant = Some (other_of Red false) }

abbrev with_laden_black : Cell
with_laden_black = record floor { ant = Some (other_of Black true) }

abbrev both : List Bool
both = true ∷ true ∷ []

abbrev red_alone : List Bool
red_alone = true ∷ false ∷ []

abbrev black_alone : List Bool
black_alone = false ∷ true ∷ []

abbrev neither_of : List Bool
neither_of = false ∷ false ∷ []

-- Friend and Foe go by the ant there
friends_and_foes : (said Friend with_red ≡ red_alone) × (said Friend with_laden_black ≡ black_alone) × (said Friend floor ≡ neither_of)
    × (said Foe with_red ≡ black_alone) × (said Foe with_laden_black ≡ red_alone) × (said Foe floor ≡ neither_of)
unfolding meets floor
friends_and_foes = (refl, refl, refl, refl, refl, refl)

-- and with food only if that ant carries it
friends_and_foes_with_food : (said FriendWithFood with_laden_black ≡ black_alone) × (said FriendWithFood with_red ≡ neither_of)
    × (said FoeWithFood with_laden_black ≡ red_alone) × (said FoeWithFood with_red ≡ neither_of)
unfolding meets floor
friends_and_foes_with_food = (refl, refl, refl, refl)

-- Food is what lies there, and not what an ant carries; a clear cell is never Rock, and rock is nothing else
food_and_rock : (said Food (record floor { food = 1 }) ≡ both) × (said Food with_laden_black ≡ neither_of)
    × (said RockCondition rock ≡ both) × (said RockCondition floor ≡ neither_of) × (said Food rock ≡ neither_of)
unfolding meets floor rock
food_and_rock = (refl, refl, refl, refl, refl)

-- Marker i is the own colour's marker i, and FoeMarker any of the other's
markers : (said (Marker 3) (record floor { red = with_mark no_marks 3 }) ≡ red_alone) × (said (Marker 2) (record floor { red = with_mark no_marks 3 }) ≡ neither_of)
    × (said FoeMarker (record floor { red = with_mark no_marks 5 }) ≡ black_alone) × (said FoeMarker (record floor { black = with_mark no_marks 0 }) ≡ red_alone)
unfolding meets floor
markers = (refl, refl, refl, refl)

-- Home is the own hill, also with food on it, and FoeHome the other's
homes : (said Home (record floor { hill = Some Red; food = 3 }) ≡ red_alone) × (said FoeHome (record floor { hill = Some Red; food = 3 }) ≡ black_alone) × (said Home floor ≡ neither_of) × (said FoeHome floor ≡ neither_of)
unfolding meets floor
homes = (refl, refl, refl, refl)

-- one red ant in three by three cells that flips in each round: the second round continues in the stream where the
-- first stopped
flips-go_on : (after_rounds (contest_minds (Flip 4 0 1 ∷ Flip 4 2 1 ∷ Drop 2 ∷ []) (Drop 0 ∷ [])) 12345
    (start_of (world_of (opening 3 3 (Rock ∷ Rock ∷ Rock ∷ Rock ∷ RedHill ∷ Rock ∷ Rock ∷ Rock ∷ Rock ∷ [])))) 2).place ≡ 2
unfolding after_round after_turn turn place_in cell_in opening floor rock put_cell same_pos drawn random_at state_at
flips-go_on = refl
