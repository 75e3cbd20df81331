-- Checks and turns under other sheets than the contest's, worked out.
use Rattle.std.proofs.Common.{◌≡◌, ℕ, true, false, [], ◌∷◌, Some, refl}
use Rattle.hex_geometry.specs.Direction.{directions}
use Rattle.hex_geometry.specs.Neighbourhood.{adjacent_pos, neighbours_of}
use Rattle.hex_geometry.specs.Position.{same_pos}
use Rattle.cell_world.specs.declared.ant.Colour.TheVariants.{Red}
use Rattle.cell_world.specs.declared.kind.Kind.TheVariants.{Rock, Clear, RedHill, BlackHill}
use Rattle.cell_world.specs.Cell.{rock}
use Rattle.cell_world.specs.Grid.{cell_in, world_of}
use Rattle.cell_world.specs.Opening.{floor, new_ant, opening}
use Rattle.cell_world.specs.Score.{hill_food_of, score_of}
use Rattle.cell_world.specs.World.{Cells, World, place_in, put_cell}
use Rattle.brain_read.specs.declared.instr.Instr.TheVariants.{Drop, Move}
use Rattle.ant_turn.specs.declared.brains.Brains.{Brains}
use Rattle.ant_turn.specs.FoodLaws.{killed_in, world_after_turn}
use Rattle.ant_turn.specs.Kills.{check_around_at, check_at, is_surrounded, killed_around, killed_at, places_around}
use Rattle.ant_turn.specs.Minds.{Minds, minds_of}
use Rattle.ant_turn.specs.Sheet.{Sheet}
use Rattle.ant_turn.specs.Turn.{stepped, turn}
use Rattle.ant_turn.proofs.TurnWorked.{beset, middle, with_foes}

-- a sheet by its numbers
abbrev sheet : ℕ → ℕ → ℕ → Sheet
sheet surround corpse rest = record { surround = surround; corpse = corpse; rest = rest }

-- lent brains play by the numbers of their own sheet
own_sheet : (brains : Brains) → (minds_of brains).sheet ≡ sheet brains.sheet.surround brains.sheet.corpse brains.sheet.rest
own_sheet brains = refl

-- four foes surround where the sheet asks for four, and three don't
four_surround : (is_surrounded (sheet 4 3 14) (beset 4) middle ≡ true) × (is_surrounded (sheet 4 3 14) (beset 3) middle ≡ false)
unfolding is_surrounded with_foes put_cell same_pos neighbours_of adjacent_pos directions floor
four_surround = (refl, refl)

-- all six surround where it asks for six, and five don't
six_surround : (is_surrounded (sheet 6 3 14) (beset 6) middle ≡ true) × (is_surrounded (sheet 6 3 14) (beset 5) middle ≡ false)
unfolding is_surrounded with_foes put_cell same_pos neighbours_of adjacent_pos directions floor
six_surround = (refl, refl)

-- five by five cells: a red ant in a ring of six black ones
--     - - .
--    - + -
--     - - .
abbrev ring : Cells
ring = cell_in (opening 5 5 (
    Rock ∷ Rock ∷ Rock ∷ Rock ∷ Rock
    ∷ Rock ∷ BlackHill ∷ BlackHill ∷ Clear ∷ Rock
    ∷ Rock ∷ BlackHill ∷ RedHill ∷ BlackHill ∷ Rock
    ∷ Rock ∷ BlackHill ∷ BlackHill ∷ Clear ∷ Rock
    ∷ Rock ∷ Rock ∷ Rock ∷ Rock ∷ Rock ∷ []))

-- under each sheet it alone dies where it is checked
ring_kills_its_middle :
    (killed_around (sheet 4 3 14) ring middle ≡ 3 ∷ [])
    × (killed_around (sheet 6 0 14) ring middle ≡ 3 ∷ [])
    × (killed_around (sheet 6 9 14) ring middle ≡ 3 ∷ [])
unfolding is_surrounded check_at killed_at places_around put_cell same_pos neighbours_of adjacent_pos directions opening cell_in rock floor
ring_kills_its_middle = (refl, refl, refl)

-- and leaves as much food as the sheet says
ring_leaves_a_corpse :
    ((check_around_at (sheet 6 0 14) ring middle middle).food ≡ 0)
    × ((check_around_at (sheet 4 3 14) ring middle middle).food ≡ 3)
    × ((check_around_at (sheet 6 9 14) ring middle middle).food ≡ 9)
unfolding is_surrounded check_at places_around put_cell same_pos neighbours_of adjacent_pos directions opening cell_in rock floor
ring_leaves_a_corpse = (refl, refl, refl)

-- red ants go ahead, and black ones stand
abbrev rules : Sheet → Minds
rules numbers = record { red = Move 0 0 ∷ []; black = Drop 0 ∷ []; sheet = numbers }

-- six by six cells, in which ant 2, at the left, goes into the middle
--     . + + #
--    + . - +
--     - + - .
--    . - - .
abbrev gap : World
gap = world_of (opening 6 6 (
    Rock ∷ Rock ∷ Rock ∷ Rock ∷ Rock ∷ Rock
    ∷ Rock ∷ Clear ∷ RedHill ∷ RedHill ∷ Rock ∷ Rock
    ∷ Rock ∷ RedHill ∷ Clear ∷ BlackHill ∷ RedHill ∷ Rock
    ∷ Rock ∷ BlackHill ∷ RedHill ∷ BlackHill ∷ Clear ∷ Rock
    ∷ Rock ∷ Clear ∷ BlackHill ∷ BlackHill ∷ Clear ∷ Rock
    ∷ Rock ∷ Rock ∷ Rock ∷ Rock ∷ Rock ∷ Rock ∷ []))

-- then black ant 3 has five foes, and red ant 6 has five until that one dies, and then four: if four surround, both
-- die; if five do, only the first; if six must, none
gap_kills :
    (killed_in (rules (sheet 4 3 14)) 1 gap 0 2 ≡ 3 ∷ 6 ∷ [])
    × (killed_in (rules (sheet 5 3 14)) 1 gap 0 2 ≡ 3 ∷ [])
    × (killed_in (rules (sheet 6 3 14)) 1 gap 0 2 ≡ [])
unfolding turn place_in stepped is_surrounded check_at killed_at places_around put_cell same_pos neighbours_of adjacent_pos directions opening cell_in rock floor
gap_kills = (refl, refl, refl)

-- what they leave lies on their hills
gap_scores :
    (score_of (world_after_turn (rules (sheet 4 3 14)) 1 gap 0 2) ≡ record { red = 3; black = 3 })
    × (score_of (world_after_turn (rules (sheet 5 0 14)) 1 gap 0 2) ≡ record { red = 0; black = 0 })
    × (score_of (world_after_turn (rules (sheet 5 9 14)) 1 gap 0 2) ≡ record { red = 0; black = 9 })
unfolding score_of hill_food_of turn place_in stepped is_surrounded check_at places_around put_cell same_pos neighbours_of adjacent_pos directions opening cell_in rock floor
gap_scores = (refl, refl, refl)

-- one red ant with a free cell ahead
abbrev lane : World
lane = world_of (opening 4 3 (
    Rock ∷ Rock ∷ Rock ∷ Rock
    ∷ Rock ∷ RedHill ∷ Clear ∷ Rock
    ∷ Rock ∷ Rock ∷ Rock ∷ Rock ∷ []))

-- after its Move it rests for as many turns as the sheet says
lane_rests :
    (((world_after_turn (rules (sheet 5 3 0)) 1 lane 0 0).cells (record { x = 2; y = 1 })).ant ≡ Some (new_ant Red 0))
    × (((world_after_turn (rules (sheet 5 3 255)) 1 lane 0 0).cells (record { x = 2; y = 1 })).ant ≡ Some (record (new_ant Red 0) { resting = 255 }))
unfolding turn place_in stepped is_surrounded check_at places_around put_cell same_pos neighbours_of adjacent_pos directions opening cell_in rock floor
lane_rests = (refl, refl)
