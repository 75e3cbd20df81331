-- Each law of cells and worlds, used at small worlds: a weaker law would not do.
use Rattle.std.proofs.Common.{◌≡◌, ◌≢◌, ℕ, ◌+◌, ◌<◌, true, false, Some, None, refl, sym, ap, ◌∙◌, arith, subst}
use Rattle.std.proofs.lemmas.Bool.{false≢true, false_from_ne_true}
use Rattle.std.proofs.lemmas.Option.{same_Some}
use Rattle.std.specs.Prelude.{IsSome, option_map}
use Rattle.hex_geometry.proofs.Places.{at}
use Rattle.hex_geometry.specs.Position.{IsInside, same_pos}
use Rattle.hex_geometry.specs.declared.direction.Dir.TheVariants.{East}
use Rattle.hex_geometry.specs.declared.position.Pos.{Pos}
use Rattle.cell_world.specs.declared.ant.Ant.{Ant}
use Rattle.cell_world.specs.declared.ant.Colour.TheVariants.{Red, Black}
use Rattle.cell_world.specs.declared.cell.Cell.{Cell}
use Rattle.cell_world.specs.declared.marks.Marks.{Marks}
use Rattle.cell_world.specs.declared.part.Part.{Part}
use Rattle.cell_world.specs.declared.part.Part.TheVariants.{Mind, Load, Food, RedMarks}
use Rattle.cell_world.specs.declared.part.Parts.{Parts}
use Rattle.cell_world.specs.Cell.{cell_weight, food_in, holds_id, rock}
use Rattle.cell_world.specs.CountLaws.{AliveArePlaced, PutCounts}
use Rattle.cell_world.specs.Grid.{Grid, IsWorld, cell_in, world_of}
use Rattle.cell_world.specs.GroundLaws.{PlaceIsCell, PutIsRead, PutKeeps, PutWeighs, PutsSettle}
use Rattle.cell_world.specs.Marks.{has_any_mark, has_mark, no_marks, with_mark, without_mark}
use Rattle.cell_world.specs.MarksLaws.{MarksAreSets}
use Rattle.cell_world.specs.Opening.{floor, hill_cell, new_ant, opening}
use Rattle.cell_world.specs.OpeningLaws.{HillsAreManned, PlansOpen}
use Rattle.cell_world.specs.PartLaws.{AreDisjoint, CellsAreParts, PatchesChangeNothing, PatchesSettle, PatchesTakeParts}
use Rattle.cell_world.specs.Parts.{Agree, Alike, CanPatch, only, patched, posture_of}
use Rattle.cell_world.specs.Score.{alive_in, alive_of, food_of, hill_food_in, hill_food_of}
use Rattle.cell_world.specs.Valid.{CanSet, Valid}
use Rattle.cell_world.specs.World.{Cells, World, place_in, put, put_cell, weight}
use Rattle.cell_world.proofs.OpeningValid.{IsWorld-opening}
use Rattle.cell_world.proofs.OpeningWorked.{IsPlan-one_hill, IsPlan-three_hills, one_hill, three_hills}

-- a world three wide and high, of any cells
abbrev three_by_three : Cells → World
three_by_three cells = record { width = 3; height = 3; ids = 0; cells = cells }

in_the_middle : IsInside 3 3 (at 1 1)
in_the_middle = record { column = omega arith; row = omega arith }

-- a cell of the red hill with four particles, on which a black ant stands that carries one
abbrev visited : Cell
visited = record floor { hill = Some Red; food = 4; ant = Some (record (new_ant Black 2) { laden = true }) }

-- it counts five particles, four of them on the red hill, and a black ant
pub set_counts_used : PutCounts → (cells : Cells) →
    (food_of (put (three_by_three cells) (at 1 1) visited) + food_in (cells (at 1 1)) ≡ food_of (three_by_three cells) + 5)
    × (hill_food_of (put (three_by_three cells) (at 1 1) visited) Red + hill_food_in Red (cells (at 1 1)) ≡ hill_food_of (three_by_three cells) Red + 4)
    × (hill_food_of (put (three_by_three cells) (at 1 1) visited) Black + hill_food_in Black (cells (at 1 1)) ≡ hill_food_of (three_by_three cells) Black + 0)
    × (alive_of (put (three_by_three cells) (at 1 1) visited) Red + alive_in Red (cells (at 1 1)) ≡ alive_of (three_by_three cells) Red + 0)
    × (alive_of (put (three_by_three cells) (at 1 1) visited) Black + alive_in Black (cells (at 1 1)) ≡ alive_of (three_by_three cells) Black + 1)
unfolding floor
set_counts_used law cells = (
  law.food (three_by_three cells) (at 1 1) visited in_the_middle,
  law.hill (three_by_three cells) Red (at 1 1) visited in_the_middle,
  law.hill (three_by_three cells) Black (at 1 1) visited in_the_middle,
  law.alive (three_by_three cells) Red (at 1 1) visited in_the_middle,
  law.alive (three_by_three cells) Black (at 1 1) visited in_the_middle,
)

-- it weighs fourteen: four particles, and an ant that carries one
pub set_weighs_used : PutWeighs → (cells : Cells) →
    weight (put (three_by_three cells) (at 1 1) visited) + cell_weight (cells (at 1 1)) ≡ weight (three_by_three cells) + 14
unfolding cell_weight floor
set_weighs_used law cells = law (three_by_three cells) (at 1 1) visited in_the_middle

-- the world of three hill cells, red, red and black
abbrev hills : Grid
hills = opening 5 3 three_hills

hills_valid : Valid (world_of hills)
hills_valid = (IsWorld-opening 5 3 three_hills IsPlan-three_hills).valid

-- three places, so three ants of both colours together
pub alive_are_placed_used : AliveArePlaced → alive_of (world_of hills) Red + alive_of (world_of hills) Black ≡ 3
unfolding place_in cell_in opening rock floor
alive_are_placed_used law = law (world_of hills) hills_valid

-- the cell below (1, 1) and (1, 1) itself
pub set_is_read_used : PutIsRead → (w : World) (cell : Cell) →
    ((put w (at 1 1) cell).cells (at 1 1) ≡ cell) × ((put w (at 1 1) cell).cells (at 1 2) ≡ w.cells (at 1 2))
set_is_read_used law w cell = (
  law.here w (at 1 1) cell,
  law.elsewhere w (at 1 1) cell (at 1 2) (λ same. let rows : 2 ≡ 1 = ap (λ (p : Pos). p.y) same in absurd (omega (arith, rows))),
)

-- changes of (1, 1) and (2, 1)
pub sets_settle_used : PutsSettle → (w : World) (here there : Cell) →
    (put (put w (at 1 1) here) (at 2 1) there ≡ put (put w (at 2 1) there) (at 1 1) here)
    × (put (put w (at 1 1) here) (at 1 1) there ≡ put w (at 1 1) there)
    × (put w (at 1 1) (w.cells (at 1 1)) ≡ w)
sets_settle_used law w here there = (
  law.swap w (at 1 1) here (at 2 1) there (λ same. let columns : 1 ≡ 2 = ap (λ (p : Pos). p.x) same in absurd (omega (arith, columns))),
  law.twice w (at 1 1) here there,
  law.same w (at 1 1),
)

-- where the ants of the three hill cells are
pub place_is_cell_used : PlaceIsCell →
    (place_in (world_of hills) 1 ≡ Some (at 2 1))
    × ((p : Pos) → place_in (world_of hills) 1 ≡ Some p → holds_id 1 (cell_in hills p) ≡ true)
    × ((p : Pos) → place_in (world_of hills) 3 ≡ None → holds_id 3 (cell_in hills p) ≡ false)
    × (((p : Pos) → holds_id 3 (cell_in hills p) ≡ false) → place_in (world_of hills) 3 ≡ None)
    × IsSome (place_in (world_of hills) 2)
    × (IsSome (place_in (world_of hills) 2) → (p : Pos) × (holds_id 2 (cell_in hills p) ≡ true))
    × ((p : Pos) → holds_id 1 (cell_in hills p) ≡ true → p ≡ at 2 1)
    × (place_in (world_of hills) 2 ≡ Some (at 3 1))
unfolding cell_in opening rock floor
place_is_cell_used law = (
  (law.place (world_of hills) 1 (at 2 1) hills_valid).1 refl,
  (λ p found. (law.place (world_of hills) 1 p hills_valid).0 found),
  (λ p none. (law.nowhere (world_of hills) 3 hills_valid).0 none p),
  (law.nowhere (world_of hills) 3 hills_valid).1,
  (law.somewhere (world_of hills) 2 hills_valid).1 (at 3 1, refl),
  (law.somewhere (world_of hills) 2 hills_valid).0,
  (λ p holds. law.one (world_of hills) 1 p (at 2 1) hills_valid holds refl),
  law.own (world_of hills) (at 3 1) (new_ant Black 2) hills_valid refl,
)

-- the world of one hill cell
abbrev hill : World
hill = world_of (opening 3 3 one_hill)

hill_valid : Valid hill
hill_valid = (IsWorld-opening 3 3 one_hill IsPlan-one_hill).valid

-- that cell with four particles more
abbrev fed_hill : Cell
fed_hill = record (hill_cell Red 0) { food = 4 }

-- its ant is at no other position
alone : (q : Pos) → q ≢ at 1 1 → holds_id 0 (hill.cells q) ≡ false
unfolding cell_in opening rock floor
alone q other = false_from_ne_true (holds_id 0 (hill.cells q)) (λ holds. other (hill_valid.once 0 q (at 1 1) holds refl))

fed_weight : weight (put hill (at 1 1) fed_hill) ≡ 13
unfolding cell_in opening rock floor weight cell_weight put_cell same_pos
fed_weight = refl

-- so it may be set
can_be_fed : CanSet hill 1 (at 1 1) fed_hill
unfolding cell_in opening rock floor
can_be_fed = record {
  room_left = omega arith;
  inside = in_the_middle;
  was_clear = refl;
  is_clear = refl;
  same_hill = refl;
  six = record { red = omega arith; black = omega arith };
  ant_known = λ ant is. let id : 0 ≡ ant.id = ap (λ (a : Ant). a.id) (same_Some (new_ant Red 0) ant is) in omega arith;
  ant_nowhere_else = λ ant is q other. subst (λ t. holds_id t (hill.cells q) ≡ false) (ap (λ (a : Ant). a.id) (same_Some (new_ant Red 0) ant is)) (alone q other);
  light_enough = omega (arith, fed_weight);
}

-- fed, the world is valid and the ant is there; without its ant, the ant has no place; and an ant of neither cell stays
-- where it is
pub set_keeps_used : PutKeeps →
    Valid (put hill (at 1 1) fed_hill)
    × (place_in (put hill (at 1 1) fed_hill) 0 ≡ Some (at 1 1))
    × (place_in (put hill (at 1 1) (record floor { hill = Some Red })) 0 ≡ None)
    × ((w : World) → holds_id 3 (w.cells (at 1 1)) ≡ false → place_in (put w (at 1 1) fed_hill) 3 ≡ place_in w 3)
unfolding cell_in opening rock floor
set_keeps_used law = (
  law.valid hill 1 (at 1 1) fed_hill hill_valid can_be_fed,
  law.came hill 1 (at 1 1) fed_hill 0 can_be_fed refl,
  law.gone hill (at 1 1) (record floor { hill = Some Red }) 0 hill_valid refl refl,
  (λ w none. law.stayed w (at 1 1) fed_hill 3 none),
)

-- the last marker and the first, and no seventh
pub marks_are_sets_used : MarksAreSets → (marks : Marks) →
    ((i : ℕ) → has_mark (record { set = 0 }) i ≡ false)
    × ((i : ℕ) → has_mark marks i ≡ true → i < 6)
    × (has_mark (with_mark marks 5) 5 ≡ true)
    × (has_mark (with_mark marks 5) 0 ≡ has_mark marks 0)
    × (has_mark (without_mark marks 5) 5 ≡ false)
    × (has_mark (without_mark marks 5) 0 ≡ has_mark marks 0)
    × (marks.set < 64 → (with_mark marks 5).set < 64)
    × (marks.set < 64 → (without_mark marks 5).set < 64)
    × (marks.set < 64 → ((i : ℕ) → i < 6 → has_mark marks i ≡ false) → marks ≡ record { set = 0 })
    × (has_mark marks 5 ≡ true → has_any_mark marks ≡ true)
    × (has_any_mark marks ≡ true → (i : ℕ) × (has_mark marks i ≡ true))
marks_are_sets_used law marks = (
  law.empty,
  law.six marks,
  law.gained marks 5 (omega arith),
  law.beside marks 5 0 (omega arith) (λ same. absurd (omega (arith, same))),
  law.lost marks 5 (omega arith),
  law.kept marks 5 0 (omega arith) (λ same. absurd (omega (arith, same))),
  law.with_six marks 5 (omega arith),
  law.without_six marks 5 (omega arith),
  (λ six none. law.one marks no_marks six (omega arith) (λ i small. none i small ∙ sym (law.empty i))),
  (λ last. (law.any marks).1 (5, last)),
  (law.any marks).0,
)

-- the world of three hill cells is one
pub plans_open_used : PlansOpen → IsWorld hills
plans_open_used law = law 5 3 three_hills IsPlan-three_hills

-- what is on its third hill cell, and beyond its rows
pub hills_are_manned_used : HillsAreManned →
    (cell_in hills (at 3 1) ≡ hill_cell Black 2)
    × ((y : ℕ) → cell_in hills (at 5 y) ≡ rock)
    × ((cell_in hills (at 3 1)).hill ≡ option_map (λ (ant : Ant). ant.colour) (cell_in hills (at 3 1)).ant)
    × ((ant : Ant) → (cell_in hills (at 3 1)).ant ≡ Some ant → ant ≡ record { id = 2; colour = ant.colour; state = 0; resting = 0; facing = East; laden = false })
    × (place_in (world_of hills) 2 ≡ Some (at 3 1))
    × IsSome (place_in (world_of hills) 2)
    × ((cell_in hills (at 3 1)).red ≡ record { set = 0 })
    × ((cell_in hills (at 3 1)).black ≡ record { set = 0 })
hills_are_manned_used law = (
  law.cell 5 3 three_hills (at 3 1) (omega arith),
  (λ y. law.beyond 5 3 three_hills (at 5 y) (omega arith)),
  law.manned 5 3 three_hills (at 3 1),
  law.new 5 3 three_hills (at 3 1),
  law.place 5 3 three_hills IsPlan-three_hills (at 3 1) (omega arith) refl,
  law.alive 5 3 three_hills IsPlan-three_hills 2 (omega arith),
  (law.unmarked 5 3 three_hills (at 3 1)).0,
  (law.unmarked 5 3 three_hills (at 3 1)).1,
)

-- a cell with the parts of the visited one, clear and of the red hill, is that one
pub cells_are_parts_used : CellsAreParts → (cell : Cell) → ((k : Part) → Alike k visited cell) → cell.rocky ≡ false → cell.hill ≡ Some Red → cell ≡ visited
unfolding floor
cells_are_parts_used law cell alike clear red = sym (law visited cell alike (sym clear) (sym red))

-- an ant before and after it thought and picked up food, and what is patched: its state and the food that lies there,
-- but not its load
abbrev before : Cell
before = record floor { hill = Some Red; food = 5; ant = Some (new_ant Red 0) }

abbrev after : Cell
after = record floor { hill = Some Red; food = 4; ant = Some (record (new_ant Red 0) { state = 7; laden = true }) }

abbrev mind_and_food : Parts
mind_and_food = record { who = false; mind = true; load = false; food = true; red_marks = false; black_marks = false }

can_patch : CanPatch before after mind_and_food
unfolding floor
can_patch = record { mind = λ who. absurd (false≢true who); load = λ who. absurd (false≢true who); same_ant = λ _ _. refl }

pub patches_take_parts_used : PatchesTakeParts →
    ((patched before after mind_and_food).food ≡ 4)
    × (option_map posture_of (patched before after mind_and_food).ant ≡ Some (record { state = 7; resting = 0; facing = East }))
    × (option_map (λ (ant : Ant). ant.laden) (patched before after mind_and_food).ant ≡ Some false)
    × ((patched before after mind_and_food).rocky ≡ false)
    × ((patched before after mind_and_food).hill ≡ Some Red)
unfolding floor
patches_take_parts_used law =
    let has = law before after mind_and_food can_patch in
    (has.named Food refl, has.named Mind refl, has.others Load refl, has.same_kind, has.same_hill)

-- food or a marker alone can be patched by those of any cell
can_patch_food : (cell source : Cell) → CanPatch cell source (only Food)
can_patch_food cell source = record { mind = λ who. absurd (false≢true who); load = λ who. absurd (false≢true who); same_ant = λ _ some. absurd (false≢true some) }

can_patch_marks : (cell source : Cell) → CanPatch cell source (only RedMarks)
can_patch_marks cell source = record { mind = λ who. absurd (false≢true who); load = λ who. absurd (false≢true who); same_ant = λ _ some. absurd (false≢true some) }

agree_in_food : (cell source : Cell) → cell.food ≡ source.food → Agree (only Food) cell source
agree_in_food cell source same Food _ = same
agree_in_food cell source same k other = absurd (false≢true other)

food_and_marks : AreDisjoint (only Food) (only RedMarks)
food_and_marks Food _ = refl
food_and_marks k other = absurd (false≢true other)

-- the visited cell has as much food as the one after
pub patches_change_nothing_used : PatchesChangeNothing → patched visited after (only Food) ≡ visited
unfolding floor
patches_change_nothing_used law = law visited after (only Food) (can_patch_food visited after) (agree_in_food visited after refl)

-- food and a marker
pub patches_settle_used : PatchesSettle → (cell one other : Cell) →
    patched (patched cell one (only Food)) other (only RedMarks) ≡ patched (patched cell other (only RedMarks)) one (only Food)
patches_settle_used law cell one other = law cell one other (only Food) (only RedMarks) food_and_marks (can_patch_food cell one) (can_patch_marks cell other)
