-- Minimising, worked out on small brains.
use Rattle.std.proofs.Common.{◌≡◌, ℕ, List, [], ◌∷◌, map, true, Some, None, codes, refl, ap, arith}
use Rattle.std.specs.Fmt.{digits}
use Rattle.ant_base.specs.Layout.{numbered}
use Rattle.hex_geometry.specs.declared.direction.Dir.{Dir}
use Rattle.hex_geometry.specs.declared.direction.Dir.TheVariants.{East, West}
use Rattle.hex_geometry.specs.declared.direction.Side.TheVariants.{Left}
use Rattle.hex_geometry.specs.declared.neighbourhood.Sight.TheVariants.{Ahead}
use Rattle.cell_world.specs.declared.ant.Ant.{Ant}
use Rattle.cell_world.specs.declared.ant.Colour.{Colour}
use Rattle.cell_world.specs.declared.ant.Colour.TheVariants.{Red, Black}
use Rattle.cell_world.specs.declared.cell.Cell.{Cell}
use Rattle.cell_world.specs.Opening.{floor}
use Rattle.cell_world.specs.World.{World}
use Rattle.brain_read.specs.declared.instr.Cond.TheVariants.{Marker}
use Rattle.brain_read.specs.declared.instr.Instr.{Instr}
use Rattle.brain_read.specs.declared.instr.Instr.TheVariants.{Sense, Mark, Unmark, PickUp, Drop, Turn, Flip, Move}
use Rattle.brain_read.specs.Canonical.{brain_text, instruction_text}
use Rattle.brain_minimise.specs.Equivalence.{AreEquivalent, shape_of}
use Rattle.brain_minimise.specs.Laws.{kept_before, left_of}
use Rattle.brain_minimise.specs.Match.{DiffersInStates, IsMatchingAnt}
use Rattle.brain_minimise.specs.Text.{minimised_text, states_text}

-- the brain
abbrev three : List Instr
three = Flip 2 1 2 ∷ Move 0 0 ∷ Move 0 0 ∷ []

-- its Flip has another shape than its Moves
flip_is_no_move : AreEquivalent three 0 1 → ⊥
flip_is_no_move equivalent = let shapes = equivalent.bisimulation.shape 0 1 equivalent.holds in cc

-- the text of it
three_told : minimised_text three (Flip 2 1 1 ∷ Move 0 0 ∷ []) ≡ codes "; 3 states, 2 kept\nFlip 2 1 1\nMove 0 0\n"
unfolding digits minimised_text brain_text instruction_text
three_told = refl

-- the text of the states of a map: the second was dropped, and the fourth is the first
states_told : states_text (Some 0 ∷ None ∷ Some 1 ∷ Some 0 ∷ []) ≡ codes "0 0\n1 dropped\n2 1\n3 0\n"
unfolding digits numbered states_text
states_told = refl

-- how many states before one have a number, and which instructions are left
ranks : (kept_before (Some 0 ∷ None ∷ Some 1 ∷ []) 2 ≡ 1) × (left_of (Some 0 ∷ None ∷ Some 1 ∷ []) (Drop 0 ∷ Drop 1 ∷ Drop 2 ∷ []) ≡ Drop 0 ∷ Drop 2 ∷ [])
ranks = (refl, refl)

-- an instruction with all but the states that it names
shapes : map shape_of (Sense Ahead 1 2 (Marker 3) ∷ Mark 4 1 ∷ Unmark 4 1 ∷ PickUp 1 2 ∷ Drop 1 ∷ Turn Left 1 ∷ Move 1 2 ∷ Flip 5 1 2 ∷ [])
    ≡ Sense Ahead 0 0 (Marker 3) ∷ Mark 4 0 ∷ Unmark 4 0 ∷ PickUp 0 0 ∷ Drop 0 ∷ Turn Left 0 ∷ Move 0 0 ∷ Flip 5 0 0 ∷ []
shapes = refl

-- two Moves with their successors exchanged
abbrev exchanged : List Instr
exchanged = Move 1 2 ∷ Move 2 1 ∷ Drop 0 ∷ []

-- aren't equivalent, since the first successor of the one is a Move and of the other the Drop
order_counts : AreEquivalent exchanged 0 1 → ⊥
order_counts equivalent =
    let onward = equivalent.bisimulation.onward 0 1 equivalent.holds in
    let shapes = equivalent.bisimulation.shape 1 2 onward.0 in cc

-- nor are two Moves whose second successors alone differ
abbrev other_second : List Instr
other_second = Move 2 0 ∷ Move 2 2 ∷ Drop 0 ∷ []

second_counts : AreEquivalent other_second 0 1 → ⊥
second_counts equivalent =
    let onward = equivalent.bisimulation.onward 0 1 equivalent.holds in
    let shapes = equivalent.bisimulation.shape 0 2 onward.1.0 in cc

-- two games whose worlds differ in the states of red ants alone
abbrev ant : Colour → ℕ → Dir → Ant
ant colour state facing = record { id = 4; colour = colour; state = state; resting = 2; facing = facing; laden = true }

red_in_another_state : IsMatchingAnt Red (Some (ant Red 1 East)) (Some (ant Red 2 East))
red_in_another_state = (refl, λ other. absurd (other refl))

-- a black ant in another state is another ant
black_stays : IsMatchingAnt Red (Some (ant Black 1 East)) (Some (ant Black 2 East)) → ⊥
black_stays same = let states = same.1 (λ is. cc) in omega (arith, states)

-- and so is a red one with another direction
red_turned : IsMatchingAnt Red (Some (ant Red 1 East)) (Some (ant Red 2 West)) → ⊥
red_turned same = let facing : West ≡ East = ap (λ (a : Ant). a.facing) same.0 in cc

-- or one if there was none
red_added : IsMatchingAnt Red None (Some (ant Red 1 East)) → ⊥
red_added same = same

-- another particle of food is another world
abbrev all : Cell → World
all cell = record { width = 3; height = 3; ids = 0; cells = λ _. cell }

food_stays : DiffersInStates Red (all floor) (all (record floor { food = 1 })) → ⊥
unfolding floor
food_stays differs = let food = ap (λ (cell : Cell). cell.food) (differs.cells (record { x = 1; y = 1 })) in omega (arith, food)
