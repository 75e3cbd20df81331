-- Turns and checks, worked out.
use Rattle.std.proofs.Common.{◌≡◌, ℕ, true, false, List, [], ◌∷◌, take, refl}
use Rattle.hex_geometry.specs.declared.position.Pos.{Pos}
use Rattle.hex_geometry.specs.Direction.{directions}
use Rattle.hex_geometry.specs.Neighbourhood.{adjacent_pos, neighbours_of}
use Rattle.hex_geometry.specs.Position.{same_pos}
use Rattle.cell_world.specs.declared.ant.Ant.{Ant}
use Rattle.cell_world.specs.declared.ant.Colour.{Colour}
use Rattle.cell_world.specs.declared.ant.Colour.TheVariants.{Red, Black}
use Rattle.cell_world.specs.declared.kind.Kind.{Kind}
use Rattle.cell_world.specs.declared.kind.Kind.TheVariants.{Rock, Clear, RedHill, BlackHill}
use Rattle.cell_world.specs.Cell.{rock}
use Rattle.cell_world.specs.Grid.{cell_in}
use Rattle.cell_world.specs.Opening.{floor, hill_cell, opening}
use Rattle.cell_world.specs.World.{Cells, put_cell}
use Rattle.brain_read.specs.declared.instr.Cond.{Cond}
use Rattle.brain_read.specs.declared.instr.Instr.TheVariants.{Flip}
use Rattle.ant_random.specs.Stream.{drawn, random_at, state_at}
use Rattle.ant_turn.specs.Conditions.{is_rock_condition, meets}
use Rattle.ant_turn.specs.Kills.{check_around_at, check_at, is_surrounded, killed_around, killed_at, places_around}
use Rattle.ant_turn.specs.Sheet.{contest}
use Rattle.ant_turn.specs.Turn.{execute, in_state, with_ant}

-- the first number of seed 12345 is 7193, which is 2 modulo 3: `Flip 3 7 8` goes to 8, uses that number and kills no
-- ant
flip-12345 : (cells : Cells) (p : Pos) (ant : Ant) → execute contest 12345 cells 0 p ant (Flip 3 7 8) ≡ record { cells = put_cell cells p (with_ant (cells p) (in_state ant 8)); drew = true; killed = [] }
unfolding drawn random_at state_at
flip-12345 cells p ant = refl

-- on a rocky cell Rock holds and no other condition
meets-rock : (condition : Cond) (colour : Colour) → meets rock condition colour ≡ is_rock_condition condition
unfolding meets rock
meets-rock condition colour = refl

-- a position off the rim
abbrev pub middle : Pos
middle = record { x = 2; y = 2 }

-- these cells, and black ants on this many neighbours of the middle
unfoldable pub with_foes : List Pos → Cells
with_foes [] = λ q. floor
with_foes (q ∷ places) = put_cell (with_foes places) q (hill_cell Black 1)

-- a red ant in the middle, with foes on its first n neighbours
abbrev pub beset : ℕ → Cells
beset n = put_cell (with_foes (take n (neighbours_of middle))) middle (hill_cell Red 0)

-- five foes surround it, and four don't
five_surround : (is_surrounded contest (beset 5) middle ≡ true) × (is_surrounded contest (beset 4) middle ≡ false)
unfolding is_surrounded with_foes put_cell same_pos neighbours_of adjacent_pos directions floor
five_surround = (refl, refl)

-- six by six cells, without ids the ants are
--     . + + .
--      . + - +
--     - + - .
--      . - - .
abbrev crowd : List Kind
crowd =
    Rock ∷ Rock ∷ Rock ∷ Rock ∷ Rock ∷ Rock
    ∷ Rock ∷ Clear ∷ RedHill ∷ RedHill ∷ Clear ∷ Rock
    ∷ Rock ∷ Clear ∷ RedHill ∷ BlackHill ∷ RedHill ∷ Rock
    ∷ Rock ∷ BlackHill ∷ RedHill ∷ BlackHill ∷ Clear ∷ Rock
    ∷ Rock ∷ Clear ∷ BlackHill ∷ BlackHill ∷ Clear ∷ Rock
    ∷ Rock ∷ Rock ∷ Rock ∷ Rock ∷ Rock ∷ Rock ∷ []

-- the red ant below the middle is surrounded, but the check to the right of the middle comes first and kills one of its
-- five foes: it lives, and of the killed there is that foe alone
first_kill_saves :
    (is_surrounded contest (cell_in (opening 6 6 crowd)) (record { x = 2; y = 3 }) ≡ true)
    × (killed_around contest (cell_in (opening 6 6 crowd)) middle ≡ 3 ∷ [])
    × (is_surrounded contest (check_around_at contest (cell_in (opening 6 6 crowd)) middle) (record { x = 2; y = 3 }) ≡ false)
    × ((check_around_at contest (cell_in (opening 6 6 crowd)) middle (record { x = 3; y = 2 })).food ≡ 3)
unfolding is_surrounded check_at killed_at places_around put_cell same_pos neighbours_of adjacent_pos directions opening cell_in rock floor
first_kill_saves = (refl, refl, refl, refl)
