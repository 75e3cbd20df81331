-- The world of a save is the one that its lines describe.
use Rattle.std.proofs.Common.{◌≡◌, ◌≢◌, ◌⊎◌, ℕ, zero, suc, ◌%◌, ◌<◌, ◌≤◌, Bool, true, false, cond, eqb, ltb, List, [], ◌∷◌, ◌++◌, length, map, get_or, Option, Some, None, refl, sym, ◌∙◌, ap, subst, inl, inr, arith}
use Rattle.std.specs.List.{AllByRecursion}
use Rattle.std.proofs.lemmas.Bool.{eq-eqb, eqb-true, eqb-false, lt-ltb, ltb-true, ltb-false}
use Rattle.std.proofs.lemmas.List.{get_or-set_other, get_or-set_same, length-map, length-set}
use Rattle.std.proofs.lemmas.Nat.{mod_below}
use Rattle.hex_geometry.specs.declared.position.Pos.{Pos}
use Rattle.hex_geometry.specs.Position.{IsInside}
use Rattle.cell_world.specs.declared.ant.Ant.{Ant}
use Rattle.cell_world.specs.declared.ant.PlacedAnt.{PlacedAnt}
use Rattle.cell_world.specs.declared.cell.Cell.{Cell}
use Rattle.cell_world.specs.Cell.{is_ant, rock}
use Rattle.cell_world.specs.Grid.{Grid, IsWorld, cell_in, world_of}
use Rattle.hex_geometry.specs.RowOrder.{index_of, pos_at}
use Rattle.cell_world.specs.World.{place_in}
use Rattle.hex_geometry.proofs.RowLemmas.{index_of-early, pos_at-index_of, index_of-pos_at}
use Rattle.cell_world.proofs.Places.{place_in-found, place_in-holds, place_in-inside}
use Rattle.cell_world.specs.declared.ant.Colour.{Colour}
use Rattle.cell_world.specs.declared.ant.Colour.TheVariants.{Red, Black}
use Rattle.match_save.specs.declared.soil.Soil.{Soil}
use Rattle.match_save.specs.declared.soil.Soil.TheVariants.{Rock}
use Rattle.match_save.specs.State.{StandApart, StandsAlone, ground_cells, is_rocky, with_ant, with_ants, hill_of}
use Rattle.match_save.specs.Saved.{living, living_at, placed_at, soil_of_cell, soil_of_clear}
use Rattle.match_save.proofs.RoundTrip.{In, IsOn, Others, alone, each, keeps}

-- a cell without its ant, as its line says it
abbrev pub bare : Cell → Cell
bare cell = record {
  rocky = is_rocky (soil_of_cell cell);
  hill = hill_of (soil_of_cell cell);
  food = cell.food;
  red = record { set = cell.red.set };
  black = record { set = cell.black.set };
  ant = None;
}

abbrev pub floors : List Cell → List Cell
floors cells = ground_cells (map soil_of_cell cells) (map (λ (cell : Cell). cell.red.set) cells) (map (λ (cell : Cell). cell.black.set) cells) (map (λ (cell : Cell). cell.food) cells)

floors-bare : (cells : List Cell) → floors cells ≡ map bare cells
floors-bare [] = refl
floors-bare (cell ∷ cells) = ap (λ l. bare cell ∷ l) (floors-bare cells)

pub floors-at : (cells : List Cell) (i : ℕ) → get_or (floors cells) i rock ≡ bare (get_or cells i rock)
unfolding rock
floors-at (cell ∷ cells) (suc i) = floors-at cells i
floors-at it that = refl

length-floors : (cells : List Cell) → length (floors cells) ≡ length cells
length-floors cells = ap length (floors-bare cells) ∙ length-map cells bare

-- a rocky cell is of no hill
abbrev pub IsPlain : Cell → Type 0
IsPlain cell = cell.rocky ≡ true → cell ≡ rock

pub clear_rocky : (hill : Option Colour) → is_rocky (soil_of_clear hill) ≡ false
clear_rocky None = refl
clear_rocky (Some Red) = refl
clear_rocky (Some Black) = refl

clear_hill : (hill : Option Colour) → hill_of (soil_of_clear hill) ≡ hill
clear_hill None = refl
clear_hill (Some Red) = refl
clear_hill (Some Black) = refl

-- with its ant again it is the cell
bare-again : (cell : Cell) → IsPlain cell → record (bare cell) { ant = cell.ant } ≡ cell
unfolding rock
bare-again cell plain = go cell.rocky refl where
  clear : (c : Cell) → c.rocky ≡ false → record (bare c) { ant = c.ant } ≡ c
  clear c is =
      ap (λ (s : Soil). record c { rocky = is_rocky s; hill = hill_of s }) (ap (λ b. cond b Rock (soil_of_clear c.hill)) is)
      ∙ ap (λ (b : Bool). record c { rocky = b; hill = hill_of (soil_of_clear c.hill) }) (clear_rocky c.hill)
      ∙ ap (λ (h : Option Colour). record c { rocky = false; hill = h }) (clear_hill c.hill)
      ∙ ap (λ (b : Bool). record c { rocky = b }) (sym is)

  go : (b : Bool) → cell.rocky ≡ b → record (bare cell) { ant = cell.ant } ≡ cell
  go false is = clear cell is
  go true is = subst (λ (c : Cell). record (bare c) { ant = c.ant } ≡ c) (sym (plain is)) refl

-- lists with equal elements
pub same_list : (xs ys : List Cell) → length xs ≡ length ys → ((i : ℕ) → i < length xs → get_or xs i rock ≡ get_or ys i rock) → xs ≡ ys
same_list [] [] full all = refl
same_list (x ∷ xs) (y ∷ ys) full all =
    ap (λ c. c ∷ xs) (all 0 (omega arith)) ∙ ap (λ l. y ∷ l) (same_list xs ys (omega (arith, full)) (λ i lt. all (suc i) (omega (arith, lt))))
same_list it that full all = absurd (let wrong : ⊥ = omega (arith, full) in wrong)

in_front : (a b : List PlacedAnt) (it : PlacedAnt) → In it a → In it (a ++ b)
in_front [] b it is = absurd is
in_front (x ∷ a) b it (inl same) = inl same
in_front (x ∷ a) b it (inr is) = inr (in_front a b it is)

in_back : (a b : List PlacedAnt) (it : PlacedAnt) → In it b → In it (a ++ b)
in_back [] b it is = is
in_back (x ∷ a) b it is = inr (in_back a b it is)

in_either : (a b : List PlacedAnt) (it : PlacedAnt) → In it (a ++ b) → In it a ⊎ In it b
in_either [] b it is = inr is
in_either (x ∷ a) b it (inl same) = inl (inl same)
in_either (x ∷ a) b it (inr is) = elim (in_either a b it is) [ inl front ↦ inl (inr front) | inr last ↦ inr last ]

module _ (g : Grid) (world : IsWorld g) where
  -- an ant that lives: it has an id below n, and is at its place
  pub record Lives (n : ℕ) (it : PlacedAnt) : Type 0 where
    pub id : it.ant.id < n
    pub place : place_in (world_of g) it.ant.id ≡ Some it.place
    pub stands : (cell_in g it.place).ant ≡ Some it.ant

  lives_at : (t n : ℕ) (it : PlacedAnt) → t < n → (o : Option Pos) → place_in (world_of g) t ≡ o → In it (living_at g o) → Lives n it
  lives_at t n it low None is is_in = absurd is_in
  lives_at t n it low (Some p) is is_in = go (cell_in g p).ant refl is_in where
    go : (ant : Option Ant) → (cell_in g p).ant ≡ ant → In it (placed_at p ant) → Lives n it
    go None told is_in' = absurd is_in'
    go (Some ant) told (inr never) = absurd never
    go (Some ant) told (inl same) =
        let held = place_in-holds (world_of g) t p is in
        let id : ant.id ≡ t = eqb-true ant.id t (ap (is_ant t) (sym told) ∙ held) in
        subst (Lives n) same (record { id = omega (arith, id, low); place = ap (place_in (world_of g)) id ∙ is; stands = told })

  pub lives : (n m : ℕ) (it : PlacedAnt) → n ≤ m → In it (living g n) → Lives m it
  lives zero m it low is_in = absurd is_in
  lives (suc n) m it low is_in = elim (in_either (living g n) (living_at g (place_in (world_of g) n)) it is_in) [
    | inl front ↦ lives n m it (omega (arith, low)) front
    | inr last ↦ lives_at n m it (omega (arith, low)) (place_in (world_of g) n) refl last
  ]

  -- an ant with a place is alive
  in_living : (n : ℕ) (it : PlacedAnt) → Lives n it → In it (living g n)
  in_living zero it alive = absurd (let l = alive.id in let wrong : ⊥ = omega (arith, l) in wrong)
  in_living (suc n) it alive = go (eqb it.ant.id n) refl (λ earlier. in_living n it earlier) where
    below : it.ant.id ≢ n → it.ant.id < suc n → it.ant.id < n
    below other low = by (ltb it.ant.id n) refl where
      by : (b : Bool) → ltb it.ant.id n ≡ b → it.ant.id < n
      by true is = ltb-true it.ant.id n is
      by false is = (let l = ltb-false it.ant.id n is in let same : it.ant.id ≡ n = omega (arith, l, low) in absurd (other same))

    go : (b : Bool) → eqb it.ant.id n ≡ b → (Lives n it → In it (living g n)) → In it (living g (suc n))
    go true is rec =
        let same : it.ant.id ≡ n = eqb-true it.ant.id n is in
        in_back (living g n) (living_at g (place_in (world_of g) n)) it
        (subst (λ (t : ℕ). In it (living_at g (place_in (world_of g) t))) same (subst (λ (o : Option Pos). In it (living_at g o)) (sym alive.place) (subst (λ (a : Option Ant). In it (placed_at it.place a)) (sym alive.stands) (inl refl))))
    go false is rec = in_front (living g n) (living_at g (place_in (world_of g) n)) it (rec (record { id = below (eqb-false it.ant.id n is) alive.id; place = alive.place; stands = alive.stands }))

  wide : 1 ≤ g.width
  wide = (let l = world.valid.wide in omega (arith, l))

  -- two that live on one cell are one
  one_place : (n m : ℕ) (it other : PlacedAnt) → Lives n it → Lives m other → it.place ≡ other.place → it.ant.id ≡ other.ant.id
  one_place n m it other a b same =
      let ants : Some it.ant ≡ Some other.ant = sym a.stands ∙ ap (λ (p : Pos). (cell_in g p).ant) same ∙ b.stands in
      let one : it.ant ≡ other.ant = cc in
      ap (λ (ant : Ant). ant.id) one

  apart-more : (ants : List PlacedAnt) (last : List PlacedAnt) → StandApart ants → StandApart last → ((it other : PlacedAnt) → In it ants → In other last → other.place ≢ it.place) → StandApart (ants ++ last)
  apart-more [] last apart apart' away = apart'
  apart-more (it ∷ ants) last apart apart' away = (alone-more ants last apart.0 (λ other is_in. away it other (inl refl) is_in), apart-more ants last apart.1 apart' (λ one other is_one is_other. away one other (inr is_one) is_other)) where
    alone-more : (ants last : List PlacedAnt) → StandsAlone it ants → ((other : PlacedAnt) → In other last → other.place ≢ it.place) → StandsAlone it (ants ++ last)
    alone-more [] [] here away = tt
    alone-more [] (other ∷ last) here away = (away other (inl refl), alone-more [] last tt (λ one is_in. away one (inr is_in)))
    alone-more (one ∷ ants) last here away = (here.0, alone-more ants last here.1 away)

  apart_at : (o : Option Pos) → StandApart (living_at g o)
  apart_at None = tt
  apart_at (Some p) = go (cell_in g p).ant where
    go : (ant : Option Ant) → StandApart (placed_at p ant)
    go None = tt
    go (Some ant) = (tt, tt)

  pub living-apart : (n : ℕ) → StandApart (living g n)
  living-apart zero = tt
  living-apart (suc n) = apart-more (living g n) (living_at g (place_in (world_of g) n)) (living-apart n) (apart_at (place_in (world_of g) n)) (λ it other is_it is_other same.
      let a = lives n n it (omega arith) is_it in
      let held = held_at (place_in (world_of g) n) refl other is_other in
      let id = one_place n (suc n) it other a (lives_at n (suc n) other (omega arith) (place_in (world_of g) n) refl is_other) (sym same) in
      let low = a.id in
      let wrong : ⊥ = omega (arith, low, id, held) in wrong)
    where
      held_at : (o : Option Pos) → place_in (world_of g) n ≡ o → (other : PlacedAnt) → In other (living_at g o) → other.ant.id ≡ n
      held_at None is other is_in = absurd is_in
      held_at (Some p) is other is_in = go (cell_in g p).ant refl is_in where
        go : (ant : Option Ant) → (cell_in g p).ant ≡ ant → In other (placed_at p ant) → other.ant.id ≡ n
        go None told never = absurd never
        go (Some ant) told (inr never) = absurd never
        go (Some ant) told (inl same) = ap (λ (v : PlacedAnt). v.ant.id) (sym same) ∙ eqb-true ant.id n (ap (is_ant n) (sym told) ∙ place_in-holds (world_of g) n p is)

  other_at : (ants : List PlacedAnt) (i : ℕ) (it : PlacedAnt) → Others g.width i ants → In it ants → i ≢ index_of g.width it.place
  other_at [] i it others is_in = absurd is_in
  other_at (first ∷ ants) i it others (inl same) = subst (λ (v : PlacedAnt). i ≢ index_of g.width v.place) same others.0
  other_at (first ∷ ants) i it others (inr is_in) = other_at ants i it others.1 is_in

  -- the cell on which an ant of the list stands is that of the ground with this ant
  there-cell : (ants : List PlacedAnt) (cells : List Cell) (count : ℕ) → length cells ≡ count → AllByRecursion (IsOn g.width count) ants → StandApart ants → (it : PlacedAnt) → In it ants
      → get_or (with_ants g.width ants cells) (index_of g.width it.place) rock ≡ record (get_or cells (index_of g.width it.place) rock) { ant = Some it.ant }
  there-cell [] cells count full are apart it is_in = absurd is_in
  there-cell (first ∷ ants) cells count full are apart it (inl same) =
      subst (λ (v : PlacedAnt). get_or (with_ants g.width (first ∷ ants) cells) (index_of g.width v.place) rock ≡ record (get_or cells (index_of g.width v.place) rock) { ant = Some v.ant }) same
      (keeps g.width ants (with_ant g.width first cells) (index_of g.width first.place) (alone g.width count first ants are.0.column are.1 apart.0)
      ∙ get_or-set_same cells (index_of g.width first.place) _ rock (let l = are.0.cell in omega (arith, l, full)))
  there-cell (first ∷ ants) cells count full are apart it (inr is_in) =
      there-cell ants (with_ant g.width first cells) count (length-set cells (index_of g.width first.place) _ ∙ full) are.1 apart.1 it is_in
      ∙ ap (λ (c : Cell). record c { ant = Some it.ant }) (get_or-set_other cells (index_of g.width first.place) (index_of g.width it.place) _ rock
      (λ e. other_at ants (index_of g.width first.place) it (alone g.width count first ants are.0.column are.1 apart.0) is_in (sym e)))

  length-with_ants : (ants : List PlacedAnt) (cells : List Cell) → length (with_ants g.width ants cells) ≡ length cells
  length-with_ants [] cells = refl
  length-with_ants (it ∷ ants) cells = length-with_ants ants (with_ant g.width it cells) ∙ length-set cells (index_of g.width it.place) _

  on_floors : (n : ℕ) → AllByRecursion (IsOn g.width (length (floors g.cells))) (living g n)
  on_floors n = each (IsOn g.width (length (floors g.cells))) (living g n) (λ it is_in.
      let alive = lives n n it (omega arith) is_in in
      let inside : IsInside g.width g.height it.place = place_in-inside (world_of g) it.ant.id it.place alive.place in
      record { column = inside.column; cell = (let l = index_of-early g.cells g.width g.height it.place world.full inside in let m = length-floors g.cells in omega (arith, l, m)) })

  -- the cell of a number, read by its position
  pub read_at : (i : ℕ) → cell_in g (pos_at g.width i) ≡ get_or g.cells i rock
  unfolding cell_in
  read_at i =
      ap (λ b. cond b (get_or g.cells (index_of g.width (pos_at g.width i)) rock) rock) (lt-ltb (i % g.width) g.width (mod_below i g.width wide))
      ∙ ap (λ (k : ℕ). get_or g.cells k rock) (index_of-pos_at g.width i)

  pub plain_at : (i : ℕ) → IsPlain (get_or g.cells i rock)
  plain_at i = λ rocky. sym (read_at i) ∙ world.valid.bare (pos_at g.width i) (ap (λ (c : Cell). c.rocky) (read_at i) ∙ rocky)

  same_at : (i : ℕ) → get_or (with_ants g.width (living g g.ids) (floors g.cells)) i rock ≡ get_or g.cells i rock
  same_at i = go (get_or g.cells i rock).ant refl where
    ants : List PlacedAnt
    ants = living g g.ids

    stands : (ant : Ant) → (get_or g.cells i rock).ant ≡ Some ant → get_or (with_ants g.width (living g g.ids) (floors g.cells)) i rock ≡ get_or g.cells i rock
    stands ant is =
        let p : Pos = pos_at g.width i in
        let it : PlacedAnt = record { place = p; ant = ant } in
        let here : (cell_in g p).ant ≡ Some ant = ap (λ (c : Cell). c.ant) (read_at i) ∙ is in
        let alive : Lives g.ids it = record { id = world.valid.known p ant here; place = place_in-found (world_of g) ant.id p world.valid (ap (is_ant ant.id) here ∙ eq-eqb ant.id ant.id refl); stands = here } in
        let told = there-cell (living g g.ids) (floors g.cells) (length (floors g.cells)) refl (on_floors g.ids) (living-apart g.ids) it (in_living g.ids it alive) in
        ap (λ (k : ℕ). get_or (with_ants g.width (living g g.ids) (floors g.cells)) k rock) (sym (index_of-pos_at g.width i))
        ∙ told
        ∙ ap (λ (k : ℕ). record (get_or (floors g.cells) k rock) { ant = Some ant }) (index_of-pos_at g.width i)
        ∙ ap (λ (c : Cell). record c { ant = Some ant }) (floors-at g.cells i)
        ∙ ap (λ (a : Option Ant). record (bare (get_or g.cells i rock)) { ant = a }) (sym is)
        ∙ bare-again (get_or g.cells i rock) (plain_at i)

    empty : (get_or g.cells i rock).ant ≡ None → get_or (with_ants g.width (living g g.ids) (floors g.cells)) i rock ≡ get_or g.cells i rock
    empty is =
        keeps g.width (living g g.ids) (floors g.cells) i (each (λ (it : PlacedAnt). i ≢ index_of g.width it.place) (living g g.ids) (λ it is_in same.
        let alive = lives g.ids g.ids it (omega arith) is_in in
        let inside : IsInside g.width g.height it.place = place_in-inside (world_of g) it.ant.id it.place alive.place in
        let place : pos_at g.width i ≡ it.place = ap (pos_at g.width) same ∙ pos_at-index_of g.width it.place inside.column in
        let both : None ≡ Some it.ant = sym is ∙ ap (λ (c : Cell). c.ant) (sym (read_at i)) ∙ ap (λ (p : Pos). (cell_in g p).ant) place ∙ alive.stands in
        absurd (cc)))
        ∙ floors-at g.cells i
        ∙ ap (λ (a : Option Ant). record (bare (get_or g.cells i rock)) { ant = a }) (sym is)
        ∙ bare-again (get_or g.cells i rock) (plain_at i)

    go : (ant : Option Ant) → (get_or g.cells i rock).ant ≡ ant → get_or (with_ants g.width (living g g.ids) (floors g.cells)) i rock ≡ get_or g.cells i rock
    go None is = empty is
    go (Some ant) is = stands ant is

  -- the cells that the lines of a world describe are its own
  pub cells-again : with_ants g.width (living g g.ids) (floors g.cells) ≡ g.cells
  cells-again = same_list (with_ants g.width (living g g.ids) (floors g.cells)) g.cells (length-with_ants (living g g.ids) (floors g.cells) ∙ length-floors g.cells) (λ i lt. same_at i)
