-- Looks that agree with a field, and looks that don't, written out.
use Rattle.std.proofs.Common.{◌≡◌, ℕ, false, Some, None, List, [], ◌∷◌, refl, ap, arith}
use Rattle.std.specs.List.{AllByRecursion}
use Rattle.hex_geometry.specs.Direction.{directions}
use Rattle.hex_geometry.specs.Neighbourhood.{adjacent_pos, neighbours_of}
use Rattle.hex_geometry.specs.Position.{same_pos}
use Rattle.cell_world.specs.declared.ant.Colour.TheVariants.{Black, Red}
use Rattle.cell_world.specs.declared.cell.Cell.{Cell}
use Rattle.cell_world.specs.Cell.{rock}
use Rattle.cell_world.specs.Grid.{Grid, cell_in, world_of}
use Rattle.cell_world.specs.Opening.{floor, hill_cell, new_ant, opening}
use Rattle.cell_world.specs.World.{Cells, place_in, put_cell}
use Rattle.ant_turn.specs.Kills.{check_at, is_surrounded, killed_at, places_around}
use Rattle.ant_turn.specs.Minds.{Minds}
use Rattle.ant_turn.specs.Turn.{stepped}
use Rattle.round_book.specs.Book.{FieldValue}
use Rattle.spec_record.proofs.LooksWorked.{kinds, minds}
use Rattle.spec_record.specs.Claims.{Sighting, merged, seen_place}
use Rattle.spec_record.specs.Look.{LookValue, look_of}
use Rattle.spec_record.specs.Reads.{reads}
use Rattle.far_crew.specs.Agreement.{AgreesWith}
use Rattle.far_crew.specs.Jobs.{FoundValue}

-- a world of these sizes and this many ids
abbrev sized : ℕ → ℕ → ℕ → Grid
sized width height ids = record { width = width; height = height; ids = ids; cells = [] }

-- a game on a world of 7 by 6 cells with 7 ids
abbrev game : Minds → FieldValue
game minds = record { world = sized 7 6 7; minds = minds; seed = 1; place = 0; whole = false; lent = None }

-- an answer with a look that was made on a world with a seed
abbrev looks_on : Minds → LookValue → Grid → ℕ → FoundValue
looks_on minds look base seed = record { minds = minds; seed = seed; base = base; looks = look ∷ [] }

-- a column more, a row more, an id more, the next seed
pub wider_world : (minds : Minds) (look : LookValue) (guess : ℕ) → ¬ AgreesWith (game minds) (looks_on minds look (sized 8 6 7) 1) look guess
wider_world minds look guess agrees = let e : 7 ≡ 8 = agrees.game.width in omega (arith, e)

pub higher_world : (minds : Minds) (look : LookValue) (guess : ℕ) → ¬ AgreesWith (game minds) (looks_on minds look (sized 7 7 7) 1) look guess
higher_world minds look guess agrees = let e : 6 ≡ 7 = agrees.game.height in omega (arith, e)

pub one_id_more : (minds : Minds) (look : LookValue) (guess : ℕ) → ¬ AgreesWith (game minds) (looks_on minds look (sized 7 6 8) 1) look guess
one_id_more minds look guess agrees = let e : 7 ≡ 8 = agrees.game.ids in omega (arith, e)

pub next_seed : (minds : Minds) (look : LookValue) (guess : ℕ) → ¬ AgreesWith (game minds) (looks_on minds look (sized 7 6 7) 2) look guess
next_seed minds look guess agrees = let e : 1 ≡ 2 = agrees.game.seed in omega (arith, e)

-- the world on which red ants flip and black ones move, at the start of a game; and after a round: the black ant of id
-- 1 went from (1, 3) to (2, 3), and the red one of id 2 was killed on (3, 3), where its food is
abbrev start : Grid
start = opening 7 6 kinds

abbrev later_with : ℕ → Grid
later_with food = record {
  width = 7;
  height = 6;
  ids = 7;
  cells =
      rock ∷ rock ∷ rock ∷ rock ∷ rock ∷ rock ∷ rock
      ∷ rock ∷ floor ∷ floor ∷ floor ∷ floor ∷ floor ∷ rock
      ∷ rock ∷ floor ∷ floor ∷ hill_cell Black 0 ∷ rock ∷ floor ∷ rock
      ∷ rock ∷ record floor { hill = Some Black } ∷ record floor { ant = Some (record (new_ant Black 1) { resting = 14 }) } ∷ record floor { hill = Some Red; food = food } ∷ hill_cell Black 3 ∷ rock ∷ rock
      ∷ rock ∷ hill_cell Red 4 ∷ floor ∷ hill_cell Black 5 ∷ hill_cell Black 6 ∷ rock ∷ rock
      ∷ rock ∷ rock ∷ rock ∷ rock ∷ rock ∷ rock ∷ rock ∷ [];
}

abbrev later : Grid
later = later_with 3

-- a game on such a world, and an answer with the look of an id on one
abbrev game_on : Grid → FieldValue
game_on world = record { world = world; minds = minds; seed = 12345; place = 0; whole = false; lent = None }

abbrev look_on : Grid → ℕ → ℕ → LookValue
look_on base guess t = look_of minds 12345 (world_of base) guess t

abbrev answer_on : Grid → ℕ → ℕ → FoundValue
answer_on base guess t = looks_on minds (look_on base guess t) base 12345

same_everywhere : (cells : Cells) (seen : List Sighting) → AllByRecursion (λ read. cells (seen_place read) ≡ cells (seen_place read)) seen
same_everywhere cells [] = tt
same_everywhere cells (read ∷ seen) = (refl, same_everywhere cells seen)

-- each look on a world agrees with the field of that world at its own guess, whether its ant is alive or dead
pub own_look_agrees : (base : Grid) (guess t : ℕ) → AgreesWith (game_on base) (answer_on base guess t) (look_on base guess t) guess
unfolding look_of
own_look_agrees base guess t = record {
  game = record { seed = refl; sheet = refl; width = refl; height = refl; ids = refl };
  guessed = refl;
  cells = same_everywhere (world_of base).cells (look_on base guess t).reads;
  same_ant = record { dead = ((λ dead. dead), (λ dead. dead)); instruction = λ p ant placed is. refl };
}

-- the look of the red ant of id 4, which read its own cell alone, agrees with the later field
pub later_look_agrees : AgreesWith (game_on later) (answer_on start 1 4) (look_on start 1 4) 1
unfolding look_of reads merged same_pos opening cell_in rock floor place_in
later_look_agrees = record {
  game = record { seed = refl; sheet = refl; width = refl; height = refl; ids = refl };
  guessed = refl;
  cells = (refl, tt);
  same_ant = record { dead = ((λ dead. absurd (let no : ⊥ = cc in no)), (λ dead. absurd (let no : ⊥ = cc in no))); instruction = λ p ant placed is. refl };
}

-- the look of an ant that is dead in both worlds reads nothing, and agrees whatever lies where it died
pub dead_ant_agrees : AgreesWith (game_on (later_with 2)) (answer_on later 1 2) (look_on later 1 2) 1
unfolding look_of reads merged cell_in rock floor place_in
dead_ant_agrees = record {
  game = record { seed = refl; sheet = refl; width = refl; height = refl; ids = refl };
  guessed = refl;
  cells = tt;
  same_ant = record { dead = ((λ dead. refl), (λ dead. refl)); instruction = λ p ant placed is. refl };
}

-- the look of the ant of id 1, which read its own cell first, doesn't agree with the later field, if that cell is empty
pub later_field : ¬ AgreesWith (game_on later) (answer_on start 0 1) (look_on start 0 1) 0
unfolding look_of reads merged stepped is_surrounded check_at killed_at places_around put_cell same_pos neighbours_of adjacent_pos directions opening cell_in rock floor place_in
later_field agrees = let emptied : Some (new_ant Black 1) ≡ None = ap (λ (cell : Cell). cell.ant) agrees.cells.0 in (let no : ⊥ = cc in no)

-- nor does that of the ant of id 2, which is dead there
pub killed_later : ¬ AgreesWith (game_on later) (answer_on start 1 2) (look_on start 1 2) 1
unfolding look_of opening cell_in rock floor place_in
killed_later agrees = let placed = agrees.same_ant.dead.1 refl in (let no : ⊥ = cc in no)
