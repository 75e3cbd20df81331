-- Edges of instructions, conditions, checks and rounds, worked out.
use Rattle.std.proofs.Common.{◌≡◌, ℕ, Bool, true, false, [], ◌∷◌, Option, Some, None, map, refl}
use Rattle.hex_geometry.proofs.Places.{at}
use Rattle.hex_geometry.specs.declared.direction.Dir.TheVariants.{East, SouthEast}
use Rattle.hex_geometry.specs.declared.direction.Side.TheVariants.{Left}
use Rattle.hex_geometry.specs.declared.neighbourhood.Sight.TheVariants.{Ahead}
use Rattle.hex_geometry.specs.Direction.{directions, turned_by}
use Rattle.hex_geometry.specs.Neighbourhood.{adjacent_pos, neighbours_of, sensed_pos}
use Rattle.hex_geometry.specs.Position.{same_pos}
use Rattle.cell_world.specs.declared.ant.Ant.{Ant}
use Rattle.cell_world.specs.declared.ant.Colour.TheVariants.{Red, Black}
use Rattle.cell_world.specs.declared.cell.Cell.{Cell}
use Rattle.cell_world.specs.declared.kind.Kind.TheVariants.{Rock, RedHill, BlackHill}
use Rattle.cell_world.specs.declared.marks.Marks.{Marks}
use Rattle.cell_world.specs.Cell.{rock}
use Rattle.cell_world.specs.Grid.{cell_in, world_of}
use Rattle.cell_world.specs.Marks.{no_marks, with_mark}
use Rattle.cell_world.specs.Opening.{floor, hill_cell, opening}
use Rattle.cell_world.specs.World.{Cells, World, place_in, put, put_cell}
use Rattle.brain_read.specs.declared.instr.Cond.TheVariants.{Food, Rock as RockCondition, Home, FoeHome}
use Rattle.brain_read.specs.declared.instr.Instr.{Instr}
use Rattle.brain_read.specs.declared.instr.Instr.TheVariants.{Sense, Mark, Unmark, PickUp, Drop, Turn, Move, Flip}
use Rattle.ant_random.specs.Stream.{drawn, random_at, state_at}
use Rattle.ant_turn.specs.Conditions.{meets}
use Rattle.ant_turn.specs.Kills.{check_at, is_surrounded, killed_at, places_around}
use Rattle.ant_turn.specs.Minds.{Minds, contest_minds}
use Rattle.ant_turn.specs.Rounds.{after_round, after_turn, start_of}
use Rattle.ant_turn.specs.Sheet.{contest}
use Rattle.ant_turn.specs.Turn.{Outcome, acts, execute, stepped, turn}
use Rattle.ant_turn.proofs.RulesWorked.{said}
use Rattle.ant_turn.proofs.TurnWorked.{beset, middle, with_foes}

-- a red ant in state 4, with food or without
abbrev red_ant : Bool → Ant
red_ant laden = record { id = 0; colour = Red; state = 4; resting = 0; facing = East; laden = laden }

-- the cell with that ant
abbrev holding : Cell → Ant → Cell
holding cell ant = record cell { ant = Some ant }

-- what the ant of the middle does, with this cell below it and this one ahead
abbrev done : Ant → Cell → Cell → Instr → Outcome
done ant own front instruction = execute contest 12345 (put_cell (put_cell (λ q. floor) (at 3 2) front) middle (holding own ant)) 0 middle ant instruction

-- a clear cell of the red hill, with a black ant on it
abbrev visited : Cell
visited = record floor { hill = Some Red; ant = Some (record (red_ant false) { colour = Black }) }

-- hills are homes also under an ant, food is food also on a hill, and an ant makes no rock
hills_under_ants : (said Home visited ≡ true ∷ false ∷ []) × (said FoeHome visited ≡ false ∷ true ∷ []) × (said RockCondition visited ≡ false ∷ false ∷ [])
    × (said Food (record visited { food = 1 }) ≡ true ∷ true ∷ [])
unfolding meets floor
hills_under_ants = (refl, refl, refl, refl)

-- marker 1, and markers 1 and 3
abbrev one : Marks
one = with_mark no_marks 1

abbrev one_and_three : Marks
one_and_three = with_mark one 3

-- Mark and Unmark leave the other markers
other_markers_stay : ((done (red_ant false) (record floor { red = one }) floor (Mark 3 7)).cells middle ≡ holding (record floor { red = one_and_three }) (record (red_ant false) { state = 7 }))
    × ((done (red_ant false) (record floor { red = one_and_three; black = one_and_three }) floor (Unmark 3 7)).cells middle ≡ holding (record floor { red = one; black = one_and_three }) (record (red_ant false) { state = 7 }))
unfolding put_cell same_pos floor
other_markers_stay = (refl, refl)

-- food is picked up on the own hill, and dropped on the foe's
food_on_hills : ((done (red_ant false) (record floor { hill = Some Red; food = 2 }) floor (PickUp 7 8)).cells middle ≡ holding (record floor { hill = Some Red; food = 1 }) (record (red_ant true) { state = 7 }))
    × ((done (red_ant true) (record floor { hill = Some Black }) floor (Drop 7)).cells middle ≡ holding (record floor { hill = Some Black; food = 1 }) (record (red_ant false) { state = 7 }))
unfolding put_cell same_pos floor
food_on_hills = (refl, refl)

-- neither food nor a hill nor a marker blocks a Move; all of them stay on their cells
abbrev full : Cell
full = record floor { hill = Some Black; food = 3; black = one }

move-onto_full : ((done (red_ant false) (record floor { hill = Some Red; red = one; food = 2 }) full (Move 7 8)).cells (at 3 2) ≡ holding full (record (red_ant false) { state = 7; resting = 14 }))
    × ((done (red_ant false) (record floor { hill = Some Red; red = one; food = 2 }) full (Move 7 8)).cells middle ≡ record floor { hill = Some Red; red = one; food = 2 })
unfolding put_cell same_pos adjacent_pos stepped check_at is_surrounded killed_at places_around neighbours_of directions floor
move-onto_full = (refl, refl)

-- an ant goes where it faces, and faces there still
abbrev southward : Ant
southward = record (red_ant true) { facing = SouthEast }

move-keeps_facing : (done southward floor floor (Move 7 8)).cells (at 2 3) ≡ holding floor (record southward { state = 7; resting = 14 })
unfolding put_cell same_pos adjacent_pos stepped check_at is_surrounded killed_at places_around neighbours_of directions floor
move-keeps_facing = refl

-- a Flip uses up a number whatever its bound and its states are, and nothing else does
flips_alone_draw : map (λ instruction. (done (red_ant false) floor floor instruction).drew) (Flip 1 7 8 ∷ Flip 4 7 7 ∷ Sense Ahead 7 8 Food ∷ Mark 0 7 ∷ Unmark 0 7 ∷ PickUp 7 8 ∷ Drop 7 ∷ Turn Left 7 ∷ Move 7 8 ∷ [])
    ≡ true ∷ true ∷ false ∷ false ∷ false ∷ false ∷ false ∷ false ∷ false ∷ []
unfolding put_cell same_pos sensed_pos adjacent_pos meets floor
flips_alone_draw = refl

-- an ant that rests neither acts nor draws; its resting count falls by one, also to zero
abbrev flipping : Minds
flipping = contest_minds (Flip 4 1 2 ∷ Flip 4 1 2 ∷ Drop 2 ∷ []) (Drop 0 ∷ [])

abbrev resting_for : ℕ → Ant
resting_for turns = record (red_ant false) { state = 0; resting = turns }

resting_ants_wait : (acts 3 flipping 12345 (λ q. holding floor (resting_for 3)) 0 middle (resting_for 3) ≡ record { cells = put_cell (λ q. holding floor (resting_for 3)) middle (holding floor (resting_for 2)); drew = false; killed = [] })
    × (acts 1 flipping 12345 (λ q. holding floor (resting_for 1)) 0 middle (resting_for 1) ≡ record { cells = put_cell (λ q. holding floor (resting_for 1)) middle (holding floor (resting_for 0)); drew = false; killed = [] })
resting_ants_wait = (refl, refl)

-- cells are checked in this order: the new one, and then its neighbours by their directions
checked_in_order : places_around middle ≡ middle ∷ at 3 2 ∷ at 2 3 ∷ at 1 3 ∷ at 1 2 ∷ at 1 1 ∷ at 2 1 ∷ []
unfolding places_around neighbours_of adjacent_pos directions
checked_in_order = refl

-- a killed ant leaves three particles and the one that it carried beside those that lie there; hill and markers stay
abbrev fallen_on : Cell
fallen_on = record floor { hill = Some Black; food = 2; red = one; black = one_and_three }

kill-leaves : check_at contest (put_cell (beset 5) middle (holding fallen_on (red_ant true))) middle middle ≡ record fallen_on { food = 6 }
unfolding check_at is_surrounded with_foes put_cell same_pos neighbours_of adjacent_pos directions floor
kill-leaves = refl

-- neither a Turn nor a Move that is blocked kills anyone, though five foes surround the ant
abbrev surrounded : Cells
surrounded = put_cell (beset 5) middle (holding floor (red_ant false))

stays_kill_nobody : ((execute contest 12345 surrounded 0 middle (red_ant false) (Turn Left 7)).cells middle ≡ holding floor (record (red_ant false) { state = 7; facing = turned_by East Left }))
    × ((execute contest 12345 surrounded 0 middle (red_ant false) (Move 7 8)).cells middle ≡ holding floor (record (red_ant false) { state = 8 }))
    × ((execute contest 12345 surrounded 0 middle (red_ant false) (Move 7 8)).killed ≡ [])
unfolding is_surrounded check_at killed_at places_around with_foes put_cell same_pos neighbours_of adjacent_pos directions floor
stays_kill_nobody = (refl, refl, refl)

-- a red ant after the one that goes has five foes; it is beside the old cell and not beside the new one, so it isn't
-- checked
abbrev behind : Cells
behind = put_cell (put_cell (with_foes (at 1 3 ∷ at 0 3 ∷ at 0 2 ∷ at 0 1 ∷ at 1 1 ∷ [])) (at 1 2) (hill_cell Red 5)) middle (holding floor (red_ant false))

old_cell_unchecked : (is_surrounded contest behind (at 1 2) ≡ true) × ((execute contest 12345 behind 0 middle (red_ant false) (Move 7 8)).killed ≡ [])
unfolding stepped check_at is_surrounded killed_at places_around with_foes put_cell same_pos neighbours_of adjacent_pos directions floor
old_cell_unchecked = (refl, refl)

-- three ants in a row, red, black and red
abbrev row : World
row = world_of (opening 5 3 (Rock ∷ Rock ∷ Rock ∷ Rock ∷ Rock ∷ Rock ∷ RedHill ∷ BlackHill ∷ RedHill ∷ Rock ∷ Rock ∷ Rock ∷ Rock ∷ Rock ∷ Rock ∷ []))

-- the state of the ant at a place
abbrev state_of : Option Ant → ℕ
state_of None = 9
state_of (Some ant) = ant.state

-- they take their turns by their ids, each by its side's brain, and share one stream: ant 0 gets 7193, ant 1 2932, and
-- ant 2 10386
turns_by_id : map (λ p. state_of ((after_round (contest_minds (Flip 7193 1 2 ∷ Drop 1 ∷ Drop 2 ∷ []) (Flip 2932 1 2 ∷ Drop 1 ∷ Drop 2 ∷ [])) 12345 (start_of row)).world.cells p).ant) (at 1 1 ∷ at 2 1 ∷ at 3 1 ∷ []) ≡ 1 ∷ 1 ∷ 2 ∷ []
unfolding after_round after_turn turn place_in cell_in opening floor rock put_cell same_pos drawn random_at state_at
turns_by_id = refl

-- the same ants, but that the ids of the red ones are exchanged: still ant 0 is first, which is last
abbrev other_row : World
other_row = put (put row (at 1 1) (hill_cell Red 2)) (at 3 1) (hill_cell Red 0)

turns_not_by_place : map (λ p. state_of ((after_round (contest_minds (Flip 7193 1 2 ∷ Drop 1 ∷ Drop 2 ∷ []) (Flip 2932 1 2 ∷ Drop 1 ∷ Drop 2 ∷ [])) 12345 (start_of other_row)).world.cells p).ant) (at 1 1 ∷ at 2 1 ∷ at 3 1 ∷ []) ≡ 2 ∷ 1 ∷ 1 ∷ []
unfolding after_round after_turn turn place_in cell_in opening floor rock put_cell same_pos drawn random_at state_at
turns_not_by_place = refl

-- an id without a place takes no turn and uses up no number
dead_take_no_turn : turn flipping 12345 row 0 7 ≡ record { cells = row.cells; drew = false; killed = [] }
unfolding turn place_in cell_in opening floor rock
dead_take_no_turn = refl
