-- The world of a save before any ant is in it.
use Rattle.std.proofs.Common.{◌≡◌, ℕ, zero, suc, ◌+◌, ◌*◌, ◌<◌, ◌≤◌, Bool, true, false, not, ◌&&◌, cond, eqb, ltb, List, [], ◌∷◌, length, get_or, sum, sum_by, Option, Some, None, refl, sym, ◌∙◌, ap, subst, inl, inr, arith}
use Rattle.std.specs.List.{AllByRecursion}
use Rattle.std.proofs.lemmas.Bool.{and_from, and_parts, cases_lt, eqb-true, not-true}
use Rattle.std.proofs.Math.ListN.{get_or-map}
use Rattle.std.proofs.lemmas.List.{get_or_past}
use Rattle.std.proofs.lemmas.List.Sums.{sum_by-cons}
use Rattle.std.proofs.lemmas.Nat.{mul-le}
use Rattle.hex_geometry.specs.declared.position.Pos.{Pos}
use Rattle.hex_geometry.specs.Position.{IsInner, IsInside, is_on_rim}
use Rattle.hex_geometry.proofs.Rim.{inner-off_rim, off_rim-inner}
use Rattle.cell_world.proofs.Openings.{HasMarksOfSix-rock}
use Rattle.cell_world.specs.declared.ant.Ant.{Ant}
use Rattle.cell_world.specs.declared.ant.PlacedAnt.{PlacedAnt}
use Rattle.cell_world.specs.declared.cell.Cell.{Cell}
use Rattle.cell_world.specs.Cell.{HasMarksOfSix, cell_weight, is_ant, rock}
use Rattle.cell_world.specs.Grid.{Grid, IsGround, cell_in, world_of}
use Rattle.hex_geometry.specs.RowOrder.{index_of, pos_at}
use Rattle.cell_world.specs.Limits.{most_ants, most_weight}
use Rattle.cell_world.specs.World.{weight}
use Rattle.cell_world.proofs.GridLemmas.{cell_in-beyond, cell_in-column}
use Rattle.hex_geometry.proofs.RowLemmas.{pos_at-index_of}
use Rattle.cell_world.proofs.GridSums.{cell_in-pos_at, weight-list}
use Rattle.ant_turn.specs.Turn.{left_by_ant}
use Rattle.match_save.specs.declared.soil.Soil.{Soil}
use Rattle.match_save.specs.declared.soil.Soil.TheVariants.{Rock}
use Rattle.match_save.specs.Draft.{Draft, IsAnt, IsInForm}
use Rattle.match_save.specs.State.{IsState, ground_cell, ground_cells, grid_of_draft, hill_count, with_ants}
use Rattle.match_save.specs.Inner.Floor.{are_sound_cells, floor_of, is_empty_cell, is_sound_cell}
use Rattle.match_save.specs.Inner.AntPuts.{CanAllStand, CanStand, weight_of_ants}
use Rattle.match_save.proofs.RoundTrip.{In, IsOn, ant-there, bare-none, each, map-with_ants}
use Rattle.match_save.proofs.SavedLaws.{AreAlike, alike, on_all}
use Rattle.match_save.proofs.Standings.{StandsInside, can-all, weight-all}

module _ (width height : ℕ) where
  -- if each cell is sound, all are
  all-sound : (cells : List Cell) (i : ℕ) → ((k : ℕ) → k < length cells → is_sound_cell width height (i + k) (get_or cells k rock) ≡ true) → are_sound_cells width height i cells ≡ true
  all-sound [] i each_is = refl
  all-sound (cell ∷ cells) i each_is =
      and_from (is_sound_cell width height i cell) (are_sound_cells width height (i + 1) cells)
      (ap (λ n. is_sound_cell width height n cell) (let s : i ≡ i + 0 = omega arith in s) ∙ each_is 0 (omega arith))
      (all-sound cells (i + 1) (λ k below. ap (λ n. is_sound_cell width height n (get_or cells k rock)) (let s : i + 1 + k ≡ i + suc k = omega arith in s) ∙ each_is (suc k) (omega arith)))

  -- if all are sound, each is
  sound-at : (cells : List Cell) (i k : ℕ) → are_sound_cells width height i cells ≡ true → k < length cells → is_sound_cell width height (i + k) (get_or cells k rock) ≡ true
  sound-at [] i k all below = absurd (omega arith)
  sound-at (cell ∷ cells) i zero all below =
      ap (λ n. is_sound_cell width height n cell) (let s : i + 0 ≡ i = omega arith in s) ∙ (and_parts (is_sound_cell width height i cell) (are_sound_cells width height (i + 1) cells) all).0
  sound-at (cell ∷ cells) i (suc k) all below =
      ap (λ n. is_sound_cell width height n (get_or cells k rock)) (let s : i + suc k ≡ i + 1 + k = omega arith in s)
      ∙ sound-at cells (i + 1) k (and_parts (is_sound_cell width height i cell) (are_sound_cells width height (i + 1) cells) all).1 (omega arith)

-- rock on which nothing lies is rock
rocky-is : (soils : List Soil) (reds blacks foods : List ℕ) (i : ℕ) → (get_or (ground_cells soils reds blacks foods) i rock).rocky ≡ true → is_empty_cell (get_or (ground_cells soils reds blacks foods) i rock) ≡ true
    → get_or (ground_cells soils reds blacks foods) i rock ≡ rock
unfolding rock
rocky-is (soil ∷ soils) (red ∷ reds) (black ∷ blacks) (food ∷ foods) (suc i) rocky empty = rocky-is soils reds blacks foods i rocky empty
rocky-is (Rock ∷ soils) (red ∷ reds) (black ∷ blacks) (food ∷ foods) zero rocky empty =
    let parts = and_parts (eqb food 0 && eqb red 0) (eqb black 0) empty in
    let first = and_parts (eqb food 0) (eqb red 0) parts.0 in
    ap (λ (n : ℕ). ground_cell Rock red black n) (eqb-true food 0 first.0)
    ∙ ap (λ (n : ℕ). ground_cell Rock n black 0) (eqb-true red 0 first.1)
    ∙ ap (λ (n : ℕ). ground_cell Rock 0 n 0) (eqb-true black 0 parts.1)
rocky-is (soil ∷ soils) (red ∷ reds) (black ∷ blacks) (food ∷ foods) zero rocky empty = absurd (cc)
rocky-is soils reds blacks foods i rocky empty = refl

tails : {s : Soil} {r b f : ℕ} {soils : List Soil} {reds blacks foods : List ℕ} → AreAlike (s ∷ soils) (r ∷ reds) (b ∷ blacks) (f ∷ foods) → AreAlike soils reds blacks foods
tails are = record { reds_full = omega arith; blacks_full = omega arith; foods_full = omega arith }

length-ground_cells : (soils : List Soil) (reds blacks foods : List ℕ) → AreAlike soils reds blacks foods → length (ground_cells soils reds blacks foods) ≡ length soils
length-ground_cells [] reds blacks foods are = refl
length-ground_cells (s ∷ soils) (r ∷ reds) (b ∷ blacks) (f ∷ foods) are = ap suc (length-ground_cells soils reds blacks foods (tails are))
length-ground_cells soils reds blacks foods are = absurd (omega arith)

-- the cells weigh what their food does
weight-ground_cells : (soils : List Soil) (reds blacks foods : List ℕ) → AreAlike soils reds blacks foods → sum_by cell_weight (ground_cells soils reds blacks foods) ≡ sum foods
unfolding cell_weight
weight-ground_cells [] reds blacks [] are = refl
weight-ground_cells (s ∷ soils) (r ∷ reds) (b ∷ blacks) (f ∷ foods) are =
    let rest = weight-ground_cells soils reds blacks foods (tails are) in
    let here = sum_by-cons cell_weight (ground_cell s r b f) (ground_cells soils reds blacks foods) in
    let there = sum_by-cons (λ (n : ℕ). n) f foods in
    omega arith
weight-ground_cells soils reds blacks foods are = absurd (omega arith)

no_ants : (soils : List Soil) (reds blacks foods : List ℕ) → AllByRecursion (λ (cell : Cell). cell.ant ≡ None) (ground_cells soils reds blacks foods)
no_ants (s ∷ soils) (r ∷ reds) (b ∷ blacks) (f ∷ foods) = (refl, no_ants soils reds blacks foods)
no_ants soils reds blacks foods = tt

-- sets below 64 are of the six markers
six-ground : (soils : List Soil) (reds blacks foods : List ℕ) → AllByRecursion (λ set. set < 64) reds → AllByRecursion (λ set. set < 64) blacks → (i : ℕ) → HasMarksOfSix (get_or (ground_cells soils reds blacks foods) i rock)
six-ground (soil ∷ soils) (red ∷ reds) (black ∷ blacks) (food ∷ foods) r b zero = record { red = r.0; black = b.0 }
six-ground (soil ∷ soils) (red ∷ reds) (black ∷ blacks) (food ∷ foods) r b (suc i) = six-ground soils reds blacks foods r.1 b.1 i
six-ground soils reds blacks foods r b i = HasMarksOfSix-rock

rock-rocky : rock.rocky ≡ true
unfolding rock
rock-rocky = refl

empty-rock : is_empty_cell rock ≡ true
unfolding rock
empty-rock = refl

module _ (d : Draft) (ok : IsInForm d) where
  floor : Grid
  floor = floor_of d

  pub full-floor : length (floor_of d).cells ≡ d.head.width * d.head.height
  full-floor = length-ground_cells d.soils d.red_marks d.black_marks d.foods (alike d ok) ∙ ok.soils ∙ omega arith

  -- no ant stands on the floor
  pub empty-floor : (p : Pos) → (cell_in (floor_of d) p).ant ≡ None
  unfolding cell_in rock
  empty-floor p = go (ltb p.x d.head.width) where
    go : (b : Bool) → (cond b (get_or (floor_of d).cells (index_of d.head.width p) rock) rock).ant ≡ None
    go true = bare-none d.soils d.red_marks d.black_marks d.foods (index_of d.head.width p)
    go false = refl

  pub inside-all : (ants : List PlacedAnt) → AllByRecursion (IsAnt d.head.width d.head.height) ants → AllByRecursion (StandsInside d.head.width d.head.height) ants
  inside-all [] all = tt
  inside-all (it ∷ ants) all = (record { column = all.0.column; row = all.0.row }, inside-all ants all.1)

  pub on : AllByRecursion (IsOn d.head.width (length (floor_of d).cells)) d.ants
  on = on_all d.head.width d.head.height (length (floor_of d).cells) d.ants (full-floor ∙ omega arith) ok.ants

  pub weight-floor : weight (world_of (floor_of d)) ≡ sum d.foods
  weight-floor = weight-list (floor_of d) full-floor ∙ weight-ground_cells d.soils d.red_marks d.black_marks d.foods (alike d ok)

  -- if the cells are sound and the food isn't too much, the floor is a world without ants
  pub IsGround-floor : hill_count d.soils ≤ most_ants → are_sound_cells d.head.width d.head.height 0 (floor_of d).cells ≡ true → sum d.foods ≤ most_weight → IsGround (floor_of d)
  IsGround-floor few sound light = record {
    world = record {
      full = full-floor;
      valid = record {
        wide = ok.head.wide;
        narrow = ok.head.narrow;
        tall = ok.head.tall;
        low = ok.head.low;
        few = few;
        rim = rim;
        bare = bare;
        known = λ p ant there. (let both : None ≡ Some ant = sym (empty-floor p) ∙ there in absurd (cc));
        once = λ t p q here there. (let none : is_ant t None ≡ true = ap (is_ant t) (sym (empty-floor p)) ∙ here in absurd (cc));
        six = six;
        light = (let w = weight-floor in omega arith);
      };
    };
    empty = no_ants d.soils d.red_marks d.black_marks d.foods;
  } where
    six : (p : Pos) → HasMarksOfSix (cell_in (floor_of d) p)
    six p = elim (cases_lt p.x d.head.width) [
      | inl column ↦ subst HasMarksOfSix (sym (cell_in-column (floor_of d) p column)) (six-ground d.soils d.red_marks d.black_marks d.foods ok.red_sets ok.black_sets (index_of d.head.width p))
      | inr beyond ↦ subst HasMarksOfSix (sym (cell_in-beyond (floor_of d) p beyond)) HasMarksOfSix-rock
    ]

    -- a cell that is inside is sound
    sound-cell : (p : Pos) → IsInside d.head.width d.head.height p → is_sound_cell d.head.width d.head.height (index_of d.head.width p) (cell_in (floor_of d) p) ≡ true
    sound-cell p inside =
        ap (is_sound_cell d.head.width d.head.height (index_of d.head.width p)) (cell_in-column (floor_of d) p inside.column)
        ∙ ap (λ n. is_sound_cell d.head.width d.head.height n (get_or (floor_of d).cells (index_of d.head.width p) rock)) (let s : index_of d.head.width p ≡ 0 + index_of d.head.width p = omega arith in s)
        ∙ sound-at d.head.width d.head.height (floor_of d).cells 0 (index_of d.head.width p) sound (let l = full-floor in let m = index_inside p inside in omega arith)
      where
        index_inside : (p : Pos) → IsInside d.head.width d.head.height p → index_of d.head.width p < d.head.width * d.head.height
        index_inside p inside = (let r : (p.y + 1) * d.head.width ≤ d.head.height * d.head.width = mul-le (p.y + 1) d.head.width d.head.height d.head.width (let b = inside.row in omega arith) (omega arith) in let c = inside.column in omega arith)

    clear-inside : (p : Pos) → (cell_in (floor_of d) p).rocky ≡ false → IsInside d.head.width d.head.height p
    clear-inside p clear = elim (cases_lt p.x d.head.width) [
      | inr beyond ↦
          let both : true ≡ false = sym rock-rocky ∙ ap (λ (c : Cell). c.rocky) (sym (cell_in-beyond (floor_of d) p beyond)) ∙ clear in
          absurd (cc)
      | inl column ↦ elim (cases_lt (index_of d.head.width p) (length (floor_of d).cells)) [
        | inl early ↦ record { column = column; row = row_below (let l = full-floor in omega arith) }
        | inr late ↦
            let both : true ≡ false = sym rock-rocky ∙ ap (λ (c : Cell). c.rocky) (sym (get_or_past (floor_of d).cells (index_of d.head.width p) rock late) ∙ sym (cell_in-column (floor_of d) p column)) ∙ clear in
            absurd (cc)
      ]
    ]
      where
        row_below : p.y * d.head.width + p.x < d.head.width * d.head.height → p.y < d.head.height
        row_below below = elim (cases_lt p.y d.head.height) [
          | inl row ↦ row
          | inr high ↦ (let r : d.head.height * d.head.width ≤ p.y * d.head.width = mul-le d.head.height d.head.width p.y d.head.width high (omega arith) in absurd (omega arith))
        ]

    rim : (p : Pos) → (cell_in (floor_of d) p).rocky ≡ false → IsInner d.head.width d.head.height p
    rim p clear =
        let inside = clear-inside p clear in
        let told : not (is_on_rim d.head.width d.head.height (pos_at d.head.width (index_of d.head.width p))) ≡ true =
        ap (λ b. cond b (is_empty_cell (cell_in (floor_of d) p)) (not (is_on_rim d.head.width d.head.height (pos_at d.head.width (index_of d.head.width p))))) (sym clear) ∙ sound-cell p inside in
        off_rim-inner d.head.width d.head.height p inside
        (ap (is_on_rim d.head.width d.head.height) (sym (pos_at-index_of d.head.width p inside.column)) ∙ not-true (is_on_rim d.head.width d.head.height (pos_at d.head.width (index_of d.head.width p))) told)

    bare : (p : Pos) → (cell_in (floor_of d) p).rocky ≡ true → cell_in (floor_of d) p ≡ rock
    bare p rocky = elim (cases_lt p.x d.head.width) [
      | inr beyond ↦ cell_in-beyond (floor_of d) p beyond
      | inl column ↦
          let at = cell_in-column (floor_of d) p column in
          elim (cases_lt p.y d.head.height) [
            | inl row ↦
                let told : is_empty_cell (cell_in (floor_of d) p) ≡ true =
                ap (λ b. cond b (is_empty_cell (cell_in (floor_of d) p)) (not (is_on_rim d.head.width d.head.height (pos_at d.head.width (index_of d.head.width p))))) (sym rocky) ∙ sound-cell p (record { column = column; row = row }) in
                at ∙ rocky-is d.soils d.red_marks d.black_marks d.foods (index_of d.head.width p) (ap (λ (c : Cell). c.rocky) (sym at) ∙ rocky) (ap is_empty_cell (sym at) ∙ told)
            | inr below ↦
                at ∙ get_or_past (floor_of d).cells (index_of d.head.width p) rock (let l = full-floor in let r : d.head.height * d.head.width ≤ p.y * d.head.width = mul-le d.head.height d.head.width p.y d.head.width below (omega arith) in omega arith)
          ]
    ]

  module _ (state : IsState d) where
    -- the ants of a state can stand on its floor
    pub stand-state : CanAllStand (floor_of d) d.ants
    unfolding grid_of_draft
    stand-state = can-all d.ants (floor_of d) full-floor (inside-all d.ants ok.ants) (each (CanStand (floor_of d)) d.ants can) state.apart where
      clear_of : (list : List PlacedAnt) → AllByRecursion (λ (it : PlacedAnt). (get_or (floor_of d).cells (index_of d.head.width it.place) rock).rocky ≡ false) list → (it : PlacedAnt) → In it list → (get_or (floor_of d).cells (index_of d.head.width it.place) rock).rocky ≡ false
      clear_of [] all it is_in = absurd is_in
      clear_of (first ∷ list) all it (inl same) = subst (λ (v : PlacedAnt). (get_or (floor_of d).cells (index_of d.head.width v.place) rock).rocky ≡ false) same all.0
      clear_of (first ∷ list) all it (inr is_in) = clear_of list all.1 it is_in

      column_of : (list : List PlacedAnt) → AllByRecursion (IsAnt d.head.width d.head.height) list → (it : PlacedAnt) → In it list → it.place.x < d.head.width
      column_of [] all it is_in = absurd is_in
      column_of (first ∷ list) all it (inl same) = subst (λ (v : PlacedAnt). v.place.x < d.head.width) same all.0.column
      column_of (first ∷ list) all it (inr is_in) = column_of list all.1 it is_in

      can : (it : PlacedAnt) → In it d.ants → CanStand (floor_of d) it
      can it is_in =
          let column = column_of d.ants ok.ants it is_in in
          record {
            clear = ap (λ (c : Cell). c.rocky) (cell_in-column (floor_of d) it.place column) ∙ clear_of d.ants state.clear it is_in;
            free = empty-floor it.place;
            made = state.world.valid.known it.place it.ant (ant-there (grid_of_draft d) d.ants d.soils d.red_marks d.black_marks d.foods state.world refl on state.apart ok.rise it is_in column);
          }

    -- it isn't too heavy
    pub light-state : sum d.foods + weight_of_ants d.ants ≤ most_weight
    unfolding grid_of_draft
    light-state =
        let light : weight (world_of (grid_of_draft d)) ≤ most_weight = state.world.valid.light in
        let all = weight-all d.ants (floor_of d) full-floor (inside-all d.ants ok.ants) stand-state in
        let w = weight-floor in
        omega arith

    -- and its cells are sound
    pub sound-state : are_sound_cells d.head.width d.head.height 0 (floor_of d).cells ≡ true
    unfolding grid_of_draft
    sound-state = all-sound d.head.width d.head.height (floor_of d).cells 0 one where
      there : (i : ℕ) → left_by_ant (get_or (with_ants d.head.width d.ants (floor_of d).cells) i rock) ≡ left_by_ant (get_or (floor_of d).cells i rock)
      there i =
          sym (get_or-map left_by_ant (with_ants d.head.width d.ants (floor_of d).cells) i rock)
          ∙ ap (λ l. get_or l i (left_by_ant rock)) (map-with_ants d.head.width left_by_ant (λ c ant. refl) d.ants (floor_of d).cells)
          ∙ get_or-map left_by_ant (floor_of d).cells i rock

      plain : (i : ℕ) → left_by_ant (get_or (floor_of d).cells i rock) ≡ get_or (floor_of d).cells i rock
      plain i = ap (λ (o : Option Ant). record (get_or (floor_of d).cells i rock) { ant = o }) (sym (bare-none d.soils d.red_marks d.black_marks d.foods i))

      one : (k : ℕ) → k < length (floor_of d).cells → is_sound_cell d.head.width d.head.height (0 + k) (get_or (floor_of d).cells k rock) ≡ true
      one k below = ap (λ n. is_sound_cell d.head.width d.head.height n (get_or (floor_of d).cells k rock)) (let s : 0 + k ≡ k = omega arith in s) ∙ go (get_or (floor_of d).cells k rock).rocky refl where
        p : Pos
        p = pos_at d.head.width k

        read : cell_in (grid_of_draft d) p ≡ get_or (with_ants d.head.width d.ants (floor_of d).cells) k rock
        read = cell_in-pos_at (grid_of_draft d) k (let l = full-floor in omega arith)

        same_rock : (get_or (with_ants d.head.width d.ants (floor_of d).cells) k rock).rocky ≡ (get_or (floor_of d).cells k rock).rocky
        same_rock = ap (λ (c : Cell). c.rocky) (there k)

        go : (b : Bool) → (get_or (floor_of d).cells k rock).rocky ≡ b → cond b (is_empty_cell (get_or (floor_of d).cells k rock)) (not (is_on_rim d.head.width d.head.height (pos_at d.head.width k))) ≡ true
        go true is =
            let bare : cell_in (grid_of_draft d) p ≡ rock = state.world.valid.bare p (ap (λ (c : Cell). c.rocky) read ∙ same_rock ∙ is) in
            ap is_empty_cell (sym (plain k) ∙ sym (there k) ∙ ap left_by_ant (sym read ∙ bare)) ∙ empty-rock
        go false is = ap not (inner-off_rim d.head.width d.head.height p (state.world.valid.rim p (ap (λ (c : Cell). c.rocky) read ∙ same_rock ∙ is)))
