-- Games are saved.
use Rattle.std.proofs.Common.{◌≡◌, ℕ, zero, suc, ◌+◌, ◌*◌, ◌<◌, ◌≤◌, Bool, true, false, cond, List, [], ◌∷◌, ◌++◌, length, map, get_or, sum_by, Option, Some, None, refl, sym, ◌∙◌, ap, ap₂, subst, inl, inr, arith}
use Rattle.std.specs.List.{AllByRecursion}
use Rattle.std.specs.Option.{is_some}
use Rattle.std.proofs.lemmas.Bool.{eqb-true}
use Rattle.std.proofs.lemmas.List.{length-map}
use Rattle.std.proofs.lemmas.List.Sums.{sum_by-cons}
use Rattle.hex_geometry.specs.declared.position.Pos.{Pos}
use Rattle.hex_geometry.specs.Position.{IsInside}
use Rattle.hex_geometry.specs.RowOrder.{index_of, pos_at}
use Rattle.ant_turn.specs.HillLaws.{hill_cell_in, hill_cells}
use Rattle.ant_turn.specs.Minds.{AreSound, Fits, mind_of}
use Rattle.brain_read.specs.Forms.{HasBound}
use Rattle.brain_read.specs.Soundness.{most_states}
use Rattle.cell_world.specs.declared.ant.Ant.{Ant}
use Rattle.cell_world.specs.declared.ant.Colour.{Colour}
use Rattle.cell_world.specs.declared.ant.Colour.TheVariants.{Red, Black}
use Rattle.cell_world.specs.declared.ant.PlacedAnt.{PlacedAnt}
use Rattle.cell_world.specs.declared.cell.Cell.{Cell}
use Rattle.cell_world.specs.Cell.{HasMarksOfSix, cell_weight, is_ant, one_if, rock}
use Rattle.cell_world.specs.Grid.{Grid, IsWorld, cell_in, world_of}
use Rattle.cell_world.specs.Limits.{most_weight}
use Rattle.cell_world.specs.World.{place_in}
use Rattle.cell_world.proofs.GridLemmas.{cell_in-column}
use Rattle.cell_world.proofs.GridSums.{weight-list}
use Rattle.cell_world.proofs.Places.{ant-clear, place_in-holds, place_in-inside}
use Rattle.match_run.specs.Game.{GameValue, IsGame}
use Rattle.match_save.specs.Draft.{IdsRise, IsAnt, IsHead, IsInForm}
use Rattle.brain_read.specs.declared.instr.Instr.{Instr}
use Rattle.match_save.specs.declared.head.Head.{Head}
use Rattle.match_save.specs.Inner.Made.{made_saved}
use Rattle.match_save.specs.declared.soil.Soil.TheVariants.{Rock}
use Rattle.match_save.specs.Saved.{IsSaved, SavedValue, draft_of, head_of, living, living_at, placed_at, soil_of_cell, soil_of_clear}
use Rattle.match_save.specs.Saves.{CanBeSaved, save_of}
use Rattle.match_save.specs.State.{IsState, grid_of_draft, hill_count, is_hill, is_rocky, program_of, turns_of, with_ants}
use Rattle.match_save.proofs.BrainForms.{IsProgram-brain, StatesBelow-brain, program-length}
use Rattle.match_save.proofs.RestBounds.{AllRest}
use Rattle.match_save.proofs.RoundTrip.{In, each}
use Rattle.match_save.proofs.WorldAgain.{IsPlain, cells-again, clear_rocky, floors, floors-at, lives, living-apart, plain_at, read_at}

-- what holds of each element holds of all
all_at : (P : Cell → Type 0) (cells : List Cell) → ((i : ℕ) → P (get_or cells i rock)) → AllByRecursion P cells
all_at P [] each = tt
all_at P (cell ∷ cells) each = (each 0, all_at P cells (λ i. each (suc i)))

all_images : {X : Type 0} (P : X → Type 0) (f : Cell → X) (cells : List Cell) → AllByRecursion (λ (cell : Cell). P (f cell)) cells → AllByRecursion P (map f cells)
all_images P f [] all = tt
all_images P f (cell ∷ cells) all = (all.0, all_images P f cells all.1)

of_all : (P : PlacedAnt → Type 0) (ants : List PlacedAnt) (it : PlacedAnt) → AllByRecursion P ants → In it ants → P it
of_all P [] it all is_in = absurd is_in
of_all P (first ∷ ants) it all (inl same) = subst P same all.0
of_all P (first ∷ ants) it all (inr is_in) = of_all P ants it all.1 is_in

-- a cell's soil is of a hill where the cell is
hill-clear : (hill : Option Colour) → one_if (is_hill (soil_of_clear hill)) ≡ one_if (is_some hill)
hill-clear None = refl
hill-clear (Some Red) = refl
hill-clear (Some Black) = refl

hill-cell : (cell : Cell) → IsPlain cell → one_if (is_hill (soil_of_cell cell)) ≡ hill_cell_in cell
unfolding rock
hill-cell cell plain = go cell.rocky refl where
  go : (b : Bool) → cell.rocky ≡ b → one_if (is_hill (soil_of_cell cell)) ≡ hill_cell_in cell
  go false is = ap (λ b. one_if (is_hill (cond b Rock (soil_of_clear cell.hill)))) is ∙ hill-clear cell.hill
  go true is = subst (λ (c : Cell). one_if (is_hill (soil_of_cell c)) ≡ hill_cell_in c) (sym (plain is)) refl

-- so there are as many
hill_count-cells : (cells : List Cell) → AllByRecursion IsPlain cells → hill_count (map soil_of_cell cells) ≡ hill_cells cells
hill_count-cells [] plain = refl
hill_count-cells (cell ∷ cells) plain = ap₂ ◌+◌ (hill-cell cell plain.0) (hill_count-cells cells plain.1)

-- and in a world
pub hill_count-world : (g : Grid) → IsWorld g → hill_count (map soil_of_cell g.cells) ≡ hill_cells g.cells
hill_count-world g world = hill_count-cells g.cells (all_at IsPlain g.cells (plain_at g world))

-- no cell has more food than the world weighs
foods-light : (most : ℕ) (cells : List Cell) → sum_by cell_weight cells ≤ most → AllByRecursion (λ (cell : Cell). cell.food ≤ most) cells
unfolding cell_weight
foods-light most [] light = tt
foods-light most (cell ∷ cells) light = (let s = sum_by-cons cell_weight cell cells in (omega (arith, s, light), foods-light most cells (omega (arith, s, light))))

-- ids that rise, after others that do
rise-from : (least n : ℕ) (ants : List PlacedAnt) → least ≤ n → IdsRise n ants → IdsRise least ants
rise-from least n [] low rise = tt
rise-from least n (it ∷ ants) low rise = (let l = rise.0 in omega (arith, low, l), rise.1)

rise-more : (least n : ℕ) (ants last : List PlacedAnt) → least ≤ n → IdsRise least ants → ((it : PlacedAnt) → In it ants → it.ant.id < n) → IdsRise n last → IdsRise least (ants ++ last)
rise-more least n [] last low rise below after = rise-from least n last low after
rise-more least n (it ∷ ants) last low rise below after =
    (rise.0, rise-more (suc it.ant.id) n ants last (let l = below it (inl refl) in omega (arith, l)) rise.1 (λ other is_in. below other (inr is_in)) after)

-- what is said of the ants of a world
module _ (g : Grid) (world : IsWorld g) where
  rise-at : (n : ℕ) (o : Option Pos) → place_in (world_of g) n ≡ o → IdsRise n (living_at g o)
  rise-at n None is = tt
  rise-at n (Some p) is = go (cell_in g p).ant refl where
    go : (ant : Option Ant) → (cell_in g p).ant ≡ ant → IdsRise n (placed_at p ant)
    go None told = tt
    go (Some ant) told = (let id = eqb-true ant.id n (ap (is_ant n) (sym told) ∙ place_in-holds (world_of g) n p is) in omega (arith, id), tt)

  living-rise : (n : ℕ) → IdsRise 0 (living g n)
  living-rise zero = tt
  living-rise (suc n) =
      rise-more 0 n (living g n) (living_at g (place_in (world_of g) n)) (omega arith) (living-rise n) (λ it is_in. (lives g world n n it (omega arith) is_in).id) (rise-at n (place_in (world_of g) n) refl)

  living-inside : (it : PlacedAnt) → In it (living g g.ids) → IsInside g.width g.height it.place
  living-inside it is_in = place_in-inside (world_of g) it.ant.id it.place (lives g world g.ids g.ids it (omega arith) is_in).place

  -- the soil under a living ant is clear
  living-clear : (it : PlacedAnt) → In it (living g g.ids) → (get_or (floors g.cells) (index_of g.width it.place) rock).rocky ≡ false
  living-clear it is_in =
      let clear : (cell_in g it.place).rocky ≡ false = ant-clear (world_of g) it.place it.ant world.valid (lives g world g.ids g.ids it (omega arith) is_in).stands in
      let here : cell_in g it.place ≡ get_or g.cells (index_of g.width it.place) rock = cell_in-column g it.place (living-inside it is_in).column in
      ap (λ (c : Cell). c.rocky) (floors-at g.cells (index_of g.width it.place))
      ∙ ap (λ (c : Cell). is_rocky (soil_of_cell c)) (sym here)
      ∙ ap (λ b. is_rocky (cond b Rock (soil_of_clear (cell_in g it.place).hill))) clear
      ∙ clear_rocky (cell_in g it.place).hill

  -- the living ants rest no longer than all
  pub living-rests : AllRest 255 (cell_in g) → AllByRecursion (λ (it : PlacedAnt). it.ant.resting ≤ 255) (living g g.ids)
  living-rests all = each (λ (it : PlacedAnt). it.ant.resting ≤ 255) (living g g.ids) (λ it is_in. all.each it.place it.ant (lives g world g.ids g.ids it (omega arith) is_in).stands)

  six_at : (i : ℕ) → HasMarksOfSix (get_or g.cells i rock)
  six_at i = subst HasMarksOfSix (read_at g world i) (world.valid.six (pos_at g.width i))

-- what is known of what is to be saved
pub record IsKnown (s : SavedValue) : Type 0 where
  pub head : IsHead (head_of s)
  pub world : IsWorld s.world
  pub hills : hill_cells s.world.cells ≡ s.world.ids
  pub sound : AreSound s.minds
  pub fit : Fits (world_of s.world) s.minds
  pub red_bounds : AllByRecursion HasBound s.minds.red
  pub black_bounds : AllByRecursion HasBound s.minds.black
  pub rests : AllByRecursion (λ (it : PlacedAnt). it.ant.resting ≤ 255) (living s.world s.world.ids)
  pub turns : s.totals.turns ≡ s.world.ids * s.round
  pub add_up : s.totals.taken + s.totals.redone ≡ s.totals.turns
  pub place : s.place ≤ s.totals.turns

module _ (s : SavedValue) (is : IsKnown s) where
  full : {X : Type 0} (f : Cell → X) → length (map f s.world.cells) ≡ s.world.height * s.world.width
  full f = (let m = length-map s.world.cells f in let w = is.world.full in omega (arith, m, w))

  fits : (it : PlacedAnt) → In it (living s.world s.world.ids) → it.ant.state < length (mind_of s.minds it.ant.colour)
  fits it is_in = is.fit.below it.place it.ant (lives s.world is.world s.world.ids s.world.ids it (omega arith) is_in).stands

  few-states : (colour : Colour) → length (mind_of s.minds colour) ≤ most_states
  few-states Red = is.sound.red.few
  few-states Black = is.sound.black.few

  ant-in-form : (it : PlacedAnt) → In it (living s.world s.world.ids) → IsAnt s.world.width s.world.height it
  ant-in-form it is_in =
      let alive = lives s.world is.world s.world.ids s.world.ids it (omega arith) is_in in
      let inside = living-inside s.world is.world it is_in in
      record {
        id = (let l = alive.id in let f = is.world.valid.few in omega (arith, l, f));
        column = inside.column;
        row = inside.row;
        state = (let l = fits it is_in in let f = few-states it.ant.colour in omega (arith, l, f));
        resting = of_all (λ (v : PlacedAnt). v.ant.resting ≤ 255) (living s.world s.world.ids) it is.rests is_in;
      }

  light : sum_by cell_weight s.world.cells ≤ most_weight
  light = (let w = weight-list s.world is.world.full in let l = is.world.valid.light in omega (arith, w, l))

  in_form : IsInForm (draft_of s)
  unfolding draft_of
  in_form = record {
    head = is.head;
    red = IsProgram-brain s.minds.red is.sound.red is.red_bounds;
    black = IsProgram-brain s.minds.black is.sound.black is.black_bounds;
    soils = full soil_of_cell;
    red_marks = full (λ (cell : Cell). cell.red.set);
    red_sets = all_images (λ set. set < 64) (λ (cell : Cell). cell.red.set) s.world.cells (all_at (λ (cell : Cell). cell.red.set < 64) s.world.cells (λ i. (six_at s.world is.world i).red));
    black_marks = full (λ (cell : Cell). cell.black.set);
    black_sets = all_images (λ set. set < 64) (λ (cell : Cell). cell.black.set) s.world.cells (all_at (λ (cell : Cell). cell.black.set < 64) s.world.cells (λ i. (six_at s.world is.world i).black));
    foods = full (λ (cell : Cell). cell.food);
    amounts = all_images (λ food. food ≤ most_weight) (λ (cell : Cell). cell.food) s.world.cells (foods-light most_weight s.world.cells light);
    ants = each (IsAnt s.world.width s.world.height) (living s.world s.world.ids) ant-in-form;
    rise = living-rise s.world is.world s.world.ids;
  }

  ids-same : hill_count (map soil_of_cell s.world.cells) ≡ s.world.ids
  ids-same = hill_count-world s.world is.world ∙ is.hills

  same : grid_of_draft (draft_of s) ≡ s.world
  unfolding draft_of grid_of_draft
  same =
      ap (λ (n : ℕ). record s.world { ids = n; cells = with_ants s.world.width (living s.world s.world.ids) (floors s.world.cells) }) ids-same
      ∙ ap (λ (cells : List Cell). record s.world { cells = cells }) (cells-again s.world is.world)

  turns-same : turns_of (draft_of s) ≡ s.world.ids * s.round
  unfolding draft_of
  turns-same = ap (λ n. n * s.round) ids-same

  fits-same : (it : PlacedAnt) → In it (living s.world s.world.ids) → it.ant.state < length (program_of (draft_of s) it.ant.colour)
  fits-same it is_in = subst (λ n. it.ant.state < n) (sym (program-length s it.ant.colour)) (fits it is_in)

  state : IsState (draft_of s)
  unfolding draft_of
  state = record {
    world = subst IsWorld (sym same) is.world;
    clear = each (λ (it : PlacedAnt). (get_or (floors s.world.cells) (index_of s.world.width it.place) rock).rocky ≡ false) (living s.world s.world.ids) (living-clear s.world is.world);
    apart = living-apart s.world is.world s.world.ids;
    red = StatesBelow-brain s.minds.red is.sound.red is.red_bounds;
    black = StatesBelow-brain s.minds.black is.sound.black is.black_bounds;
    fits = each (λ (it : PlacedAnt). it.ant.state < length (program_of (draft_of s) it.ant.colour)) (living s.world s.world.ids) fits-same;
    place = (let p = is.place in let t = is.turns in let u = turns-same in omega (arith, p, t, u));
    turns = is.add_up ∙ is.turns ∙ sym turns-same;
  }

  -- what is known so is a save
  pub IsSaved-known : IsSaved s
  IsSaved-known = record { in_form = in_form; state = state; same = same; turns = is.turns }

-- what is known of a game
pub record IsKnownGame (game : GameValue) : Type 0 where
  pub kept : IsGame game
  pub head : IsHead (head_of (save_of game))
  pub world : IsWorld game.field.world
  pub sound : AreSound game.field.minds
  pub fit : Fits (world_of game.field.world) game.field.minds
  pub red_bounds : AllByRecursion HasBound game.field.minds.red
  pub black_bounds : AllByRecursion HasBound game.field.minds.black
  pub rests : AllByRecursion (λ (it : PlacedAnt). it.ant.resting ≤ 255) (living game.field.world game.field.world.ids)

-- a game that can be saved is saved
pub IsSaved-game : (game : GameValue) → CanBeSaved game → IsKnownGame game → IsSaved (save_of game)
IsSaved-game game can is = IsSaved-known (save_of game) (record {
  head = is.head;
  world = is.world;
  hills = can.hills;
  sound = is.sound;
  fit = is.fit;
  red_bounds = is.red_bounds;
  black_bounds = is.black_bounds;
  rests = is.rests;
  turns = (let t = is.kept.turns in let e = can.at_end in omega (arith, t, e));
  add_up = is.kept.add_up;
  place = (let p = is.kept.place_to in let f = can.from_start in omega (arith, p, f));
})

-- the save that is built from a game's parts is the game's
pub made-game : (game : GameValue) (head : Head) (red black : List Instr) (world : Grid) → CanBeSaved game → IsGame game → head ≡ head_of (save_of game) → red ≡ game.field.minds.red → black ≡ game.field.minds.black
    → world ≡ game.field.world → made_saved head red black world ≡ save_of game
made-game game head red black world can kept is_head is_red is_black is_world =
    let turns : game.field.world.ids * game.done ≡ game.totals.turns = (let t = kept.turns in let e = can.at_end in omega (arith, t, e)) in
    ap (λ (h : Head). made_saved h red black world) is_head
    ∙ ap (λ (l : List Instr). made_saved (head_of (save_of game)) l black world) is_red
    ∙ ap (λ (l : List Instr). made_saved (head_of (save_of game)) game.field.minds.red l world) is_black
    ∙ ap (made_saved (head_of (save_of game)) game.field.minds.red game.field.minds.black) is_world
    ∙ ap (λ (n : ℕ). record (save_of game) { totals = record (game.totals) { turns = n } }) turns
