-- The lines of the save that lines describe are these lines.
use Rattle.std.proofs.Common.{◌≡◌, ◌≢◌, ◌⊎◌, ℕ, zero, suc, ◌<◌, ◌≤◌, Bool, true, false, cond, eqb, ltb, List, [], ◌∷◌, ◌++◌, length, map, get_or, set, Option, Some, None, refl, sym, ◌∙◌, ap, subst, inl, inr, arith}
use Rattle.std.specs.List.{AllByRecursion}
use Rattle.std.proofs.lemmas.Bool.{eqb-true, eqb-false, eq-eqb, ne_eqb, lt-ltb, le-ltb, ltb-true, ltb-false}
use Rattle.std.proofs.lemmas.List.{get_or-set_same, get_or-set_other, length-set}
use Rattle.hex_geometry.proofs.RowLemmas.{pos_at-index_of}
use Rattle.hex_geometry.specs.declared.position.Pos.{Pos}
use Rattle.cell_world.specs.declared.ant.Ant.{Ant}
use Rattle.cell_world.specs.declared.ant.PlacedAnt.{PlacedAnt}
use Rattle.cell_world.specs.declared.cell.Cell.{Cell}
use Rattle.cell_world.specs.Cell.{holds_id, is_ant, rock}
use Rattle.cell_world.specs.Grid.{Grid, IsWorld, cell_in, world_of}
use Rattle.hex_geometry.specs.RowOrder.{index_of, pos_at}
use Rattle.cell_world.specs.World.{place_in}
use Rattle.cell_world.proofs.Places.{place_in-found, place_in-nowhere}
use Rattle.match_save.specs.Draft.{IdsRise}
use Rattle.match_save.specs.declared.soil.Soil.{Soil}
use Rattle.match_save.specs.State.{StandApart, StandsAlone, ground_cells, with_ant, with_ants}
use Rattle.match_save.specs.Saved.{living, living_at, placed_at}

-- an ant is in a list
abbrev pub In : PlacedAnt → List PlacedAnt → Type 0
In it [] = ⊥
In it (first ∷ ants) = (first ≡ it) ⊎ In it ants

-- what holds of each ant that is in a list holds of all
pub each : (P : PlacedAnt → Type 0) (list : List PlacedAnt) → ((it : PlacedAnt) → In it list → P it) → AllByRecursion P list
each P [] all = tt
each P (it ∷ list) all = (all it (inl refl), each P list (λ other is_in. all other (inr is_in)))

apart-index : (width : ℕ) (p q : Pos) → p.x < width → q.x < width → q ≢ p → index_of width p ≢ index_of width q
apart-index width p q in_p in_q other same = other (sym (pos_at-index_of width q in_q) ∙ ap (pos_at width) (sym same) ∙ pos_at-index_of width p in_p)

-- an ant stands within the rows, and on one of this many cells
pub record IsOn (width count : ℕ) (it : PlacedAnt) : Type 0 where
  pub column : it.place.x < width
  pub cell : index_of width it.place < count

module _ (width : ℕ) where
  abbrev pub Others : ℕ → List PlacedAnt → Type 0
  Others i ants = AllByRecursion (λ (it : PlacedAnt). i ≢ index_of width it.place) ants

  pub keeps : (ants : List PlacedAnt) (cells : List Cell) (i : ℕ) → Others i ants → get_or (with_ants width ants cells) i rock ≡ get_or cells i rock
  keeps [] cells i others = refl
  keeps (it ∷ ants) cells i others = keeps ants (with_ant width it cells) i others.1 ∙ get_or-set_other cells (index_of width it.place) i _ rock others.0

  pub alone : (count : ℕ) (it : PlacedAnt) (ants : List PlacedAnt) → it.place.x < width → AllByRecursion (IsOn width count) ants → StandsAlone it ants → Others (index_of width it.place) ants
  alone count it [] within are apart = tt
  alone count it (other ∷ ants) within are apart = (apart-index width it.place other.place within are.0.column apart.0, alone count it ants within are.1 apart.1)

  there : (ants : List PlacedAnt) (cells : List Cell) (count : ℕ) → length cells ≡ count → AllByRecursion (IsOn width count) ants → StandApart ants → (it : PlacedAnt) → In it ants
      → (get_or (with_ants width ants cells) (index_of width it.place) rock).ant ≡ Some it.ant
  there [] cells count full are apart it is = absurd is
  there (first ∷ ants) cells count full are apart it (inr is) = there ants (with_ant width first cells) count (length-set cells (index_of width first.place) _ ∙ full) are.1 apart.1 it is
  there (first ∷ ants) cells count full are apart it (inl same) =
      subst (λ (v : PlacedAnt). (get_or (with_ants width (first ∷ ants) cells) (index_of width v.place) rock).ant ≡ Some v.ant) same
      (ap (λ (c : Cell). c.ant) (keeps ants (with_ant width first cells) (index_of width first.place) (alone count first ants are.0.column are.1 apart.0)
      ∙ get_or-set_same cells (index_of width first.place) _ rock (let l = are.0.cell in omega (arith, l, full))))

  -- an ant of the list that stands on the cell of this number
  pub record Stands (ants : List PlacedAnt) (i : ℕ) (ant : Ant) : Type 0 where
    pub it : PlacedAnt
    pub is_in : In it ants
    pub number : index_of width it.place ≡ i
    pub is_ant : it.ant ≡ ant

  pub back : (ants : List PlacedAnt) (cells : List Cell) (count i : ℕ) (ant : Ant) → length cells ≡ count → AllByRecursion (IsOn width count) ants → (get_or (with_ants width ants cells) i rock).ant ≡ Some ant
      → ((get_or cells i rock).ant ≡ Some ant) ⊎ Stands ants i ant
  back [] cells count i ant full are e = inl e
  back (first ∷ ants) cells count i ant full are e = go (back ants (with_ant width first cells) count i ant (length-set cells (index_of width first.place) _ ∙ full) are.1 e) where
    here : (b : Bool) → eqb i (index_of width first.place) ≡ b → (get_or (with_ant width first cells) i rock).ant ≡ Some ant → ((get_or cells i rock).ant ≡ Some ant) ⊎ Stands (first ∷ ants) i ant
    here false is told = inl (ap (λ (c : Cell). c.ant) (sym (get_or-set_other cells (index_of width first.place) i _ rock (eqb-false i (index_of width first.place) is))) ∙ told)
    here true is told =
        let same : i ≡ index_of width first.place = eqb-true i (index_of width first.place) is in
        let set_here = get_or-set_same cells (index_of width first.place) (record (get_or cells (index_of width first.place) rock) { ant = Some first.ant }) rock (let l = are.0.cell in omega (arith, l, full)) in
        let ants_are : Some first.ant ≡ Some ant = ap (λ (c : Cell). c.ant) (sym set_here) ∙ ap (λ (k : ℕ). (get_or (with_ant width first cells) k rock).ant) (sym same) ∙ told in
        let one : first.ant ≡ ant = cc in
        inr (record { it = first; is_in = inl refl; number = sym same; is_ant = one })

    go : ((get_or (with_ant width first cells) i rock).ant ≡ Some ant) ⊎ Stands ants i ant → ((get_or cells i rock).ant ≡ Some ant) ⊎ Stands (first ∷ ants) i ant
    go (inl told) = here (eqb i (index_of width first.place)) refl told
    go (inr found) = inr (record { it = found.it; is_in = inr found.is_in; number = found.number; is_ant = found.is_ant })

  -- what doesn't look at ants is the same with them
  map-set : {X : Type 0} (f : Cell → X) (cells : List Cell) (i : ℕ) (cell : Cell) → f cell ≡ f (get_or cells i rock) → map f (set cells i cell) ≡ map f cells
  map-set f [] i cell same = refl
  map-set f (c ∷ cells) zero cell same = ap (λ x. x ∷ map f cells) same
  map-set f (c ∷ cells) (suc i) cell same = ap (λ l. f c ∷ l) (map-set f cells i cell same)

  pub map-with_ants : {X : Type 0} (f : Cell → X) → ((c : Cell) (ant : Option Ant) → f (record c { ant = ant }) ≡ f c) → (ants : List PlacedAnt) (cells : List Cell) → map f (with_ants width ants cells) ≡ map f cells
  map-with_ants f blind [] cells = refl
  map-with_ants f blind (it ∷ ants) cells =
      map-with_ants f blind ants (with_ant width it cells)
      ∙ map-set f cells (index_of width it.place) (record (get_or cells (index_of width it.place) rock) { ant = Some it.ant }) (blind (get_or cells (index_of width it.place) rock) (Some it.ant))

-- no cell of the ground has an ant
pub bare-none : (soils : List Soil) (reds blacks foods : List ℕ) (i : ℕ) → (get_or (ground_cells soils reds blacks foods) i rock).ant ≡ None
unfolding rock
bare-none (soil ∷ soils) (red ∷ reds) (black ∷ blacks) (food ∷ foods) (suc i) = bare-none soils reds blacks foods i
bare-none it reds blacks foods that = refl

-- the ants whose ids are below n, and those of id n
abbrev below : ℕ → List PlacedAnt → List PlacedAnt
below n [] = []
below n (it ∷ ants) = cond (ltb it.ant.id n) (it ∷ below n ants) (below n ants)

abbrev exactly : ℕ → List PlacedAnt → List PlacedAnt
exactly n [] = []
exactly n (it ∷ ants) = cond (eqb it.ant.id n) (it ∷ exactly n ants) (exactly n ants)

none_below : (ants : List PlacedAnt) (least k : ℕ) → IdsRise least ants → k ≤ least → below k ants ≡ []
none_below [] least k rise low = refl
none_below (it ∷ ants) least k rise low = rw (le-ltb it.ant.id k (omega (arith, rise.0, low))) (none_below ants (suc it.ant.id) k rise.1 (omega (arith, rise.0, low)))

none_exactly : (ants : List PlacedAnt) (least k : ℕ) → IdsRise least ants → k < least → exactly k ants ≡ []
none_exactly [] least k rise low = refl
none_exactly (it ∷ ants) least k rise low = rw (ne_eqb it.ant.id k (omega (arith, rise.0, low))) (none_exactly ants (suc it.ant.id) k rise.1 (omega (arith, rise.0, low)))

-- the ants below n + 1 are those below n and that of id n
below-more : (ants : List PlacedAnt) (least n : ℕ) → IdsRise least ants → below (suc n) ants ≡ below n ants ++ exactly n ants
below-more [] least n rise = refl
below-more (it ∷ ants) least n rise = go (ltb it.ant.id n) refl (eqb it.ant.id n) refl (below-more ants (suc it.ant.id) n rise.1) where
  go : (a : Bool) → ltb it.ant.id n ≡ a → (b : Bool) → eqb it.ant.id n ≡ b → below (suc n) ants ≡ below n ants ++ exactly n ants
      → cond (ltb it.ant.id (suc n)) (it ∷ below (suc n) ants) (below (suc n) ants) ≡ cond a (it ∷ below n ants) (below n ants) ++ cond b (it ∷ exactly n ants) (exactly n ants)
  go true is_a true is_b rest = absurd (let l = ltb-true it.ant.id n is_a in let e = eqb-true it.ant.id n is_b in let wrong : ⊥ = omega (arith, l, e) in wrong)
  go true is_a false is_b rest = rw (lt-ltb it.ant.id (suc n) (let l = ltb-true it.ant.id n is_a in omega (arith, l))) (ap (λ l. it ∷ l) rest)
  go false is_a true is_b rest =
      let e : it.ant.id ≡ n = eqb-true it.ant.id n is_b in
      rw (lt-ltb it.ant.id (suc n) (omega (arith, e)), none_below ants (suc it.ant.id) (suc n) rise.1 (omega (arith, e)), none_below ants (suc it.ant.id) n rise.1 (omega (arith, e)), none_exactly ants (suc it.ant.id) n rise.1 (omega (arith, e))) refl
  go false is_a false is_b rest =
      let high : n < it.ant.id = above (ltb-false it.ant.id n is_a) (eqb-false it.ant.id n is_b) in
      rw (le-ltb it.ant.id (suc n) (omega (arith, high))) rest
    where
      above : n ≤ it.ant.id → it.ant.id ≢ n → n < it.ant.id
      above low other = by (ltb n it.ant.id) refl where
        by : (b : Bool) → ltb n it.ant.id ≡ b → n < it.ant.id
        by true is = ltb-true n it.ant.id is
        by false is = (let l = ltb-false n it.ant.id is in let same : it.ant.id ≡ n = omega (arith, l, low) in absurd (other same))

all-below : (ants : List PlacedAnt) (n : ℕ) → AllByRecursion (λ (it : PlacedAnt). it.ant.id < n) ants → below n ants ≡ ants
all-below [] n all = refl
all-below (it ∷ ants) n all = rw (lt-ltb it.ant.id n all.0) (ap (λ l. it ∷ l) (all-below ants n all.1))

-- the one ant of an id, or none
data Known (n : ℕ) (ants : List PlacedAnt) : Type 0 where
  Nobody : exactly n ants ≡ [] → ((it : PlacedAnt) → In it ants → it.ant.id ≢ n) → Known n ants
  Somebody : (it : PlacedAnt) → In it ants → it.ant.id ≡ n → exactly n ants ≡ it ∷ [] → Known n ants

known : (ants : List PlacedAnt) (least n : ℕ) → IdsRise least ants → Known n ants
known [] least n rise = Nobody refl (λ it is. absurd is)
known (first ∷ ants) least n rise = go (eqb first.ant.id n) refl (known ants (suc first.ant.id) n rise.1) where
  go : (b : Bool) → eqb first.ant.id n ≡ b → Known n ants → Known n (first ∷ ants)
  go true is rest =
      let same : first.ant.id ≡ n = eqb-true first.ant.id n is in
      Somebody first (inl refl) same (rw is (ap (λ l. first ∷ l) (none_exactly ants (suc first.ant.id) n rise.1 (omega (arith, same)))))
  go false is (Nobody none apart) = Nobody (rw is none) (λ it is_in. others it is_in) where
    others : (it : PlacedAnt) → In it (first ∷ ants) → it.ant.id ≢ n
    others it (inl same) = λ e. eqb-false first.ant.id n is (ap (λ (v : PlacedAnt). v.ant.id) same ∙ e)
    others it (inr is_in) = apart it is_in
  go false is (Somebody it is_in id only) = Somebody it (inr is_in) id (rw is only)

-- a world that is a grid of with_ants ground
module _ (g : Grid) (ants : List PlacedAnt) (soils : List Soil) (reds blacks foods : List ℕ)
    (world : IsWorld g) (cells : g.cells ≡ with_ants g.width ants (ground_cells soils reds blacks foods))
    (on : AllByRecursion (IsOn g.width (length (ground_cells soils reds blacks foods))) ants) (apart : StandApart ants) (rise : IdsRise 0 ants) where
  pub ant-there : (it : PlacedAnt) → In it ants → it.place.x < g.width → (cell_in g it.place).ant ≡ Some it.ant
  unfolding cell_in
  ant-there it is_in within =
      ap (λ b. (cond b (get_or g.cells (index_of g.width it.place) rock) rock).ant) (lt-ltb it.place.x g.width within)
      ∙ ap (λ l. (get_or l (index_of g.width it.place) rock).ant) cells
      ∙ there g.width ants (ground_cells soils reds blacks foods) (length (ground_cells soils reds blacks foods)) refl on apart it is_in

  within_of : (list : List PlacedAnt) → AllByRecursion (IsOn g.width (length (ground_cells soils reds blacks foods))) list → (it : PlacedAnt) → In it list → it.place.x < g.width
  within_of [] all it is_in = absurd is_in
  within_of (first ∷ list) all it (inl same) = subst (λ (v : PlacedAnt). v.place.x < g.width) same all.0.column
  within_of (first ∷ list) all it (inr is_in) = within_of list all.1 it is_in

  place-there : (it : PlacedAnt) → In it ants → place_in (world_of g) it.ant.id ≡ Some it.place
  place-there it is_in = place_in-found (world_of g) it.ant.id it.place world.valid
      (ap (is_ant it.ant.id) (ant-there it is_in (within_of ants on it is_in)) ∙ eq-eqb it.ant.id it.ant.id refl)

  nobody-there : (n : ℕ) → ((it : PlacedAnt) → In it ants → it.ant.id ≢ n) → (p : Pos) → holds_id n (cell_in g p) ≡ false
  unfolding cell_in rock
  nobody-there n other p = go (ltb p.x g.width) where
    told : (ant : Option Ant) → (get_or g.cells (index_of g.width p) rock).ant ≡ ant → is_ant n ant ≡ false
    told None is = refl
    told (Some ant) is = found (back g.width ants (ground_cells soils reds blacks foods) (length (ground_cells soils reds blacks foods)) (index_of g.width p) ant refl on (ap (λ l. (get_or l (index_of g.width p) rock).ant) (sym cells) ∙ is)) where
      found : ((get_or (ground_cells soils reds blacks foods) (index_of g.width p) rock).ant ≡ Some ant) ⊎ Stands g.width ants (index_of g.width p) ant → eqb ant.id n ≡ false
      found (inl e) =
          let wrong : None ≡ Some ant = sym (bare-none soils reds blacks foods (index_of g.width p)) ∙ e in
          absurd (cc)
      found (inr one) = ne_eqb ant.id n (λ e. other one.it one.is_in (ap (λ (a : Ant). a.id) one.is_ant ∙ e))

    go : (b : Bool) → holds_id n (cond b (get_or g.cells (index_of g.width p) rock) rock) ≡ false
    go true = told (get_or g.cells (index_of g.width p) rock).ant refl
    go false = refl

  living-one : (n : ℕ) → living_at g (place_in (world_of g) n) ≡ exactly n ants
  living-one n = go (known ants 0 n rise) where
    go : Known n ants → living_at g (place_in (world_of g) n) ≡ exactly n ants
    go (Nobody none other) = ap (living_at g) (place_in-nowhere (world_of g) n (nobody-there n other)) ∙ sym none
    go (Somebody it is_in id only) =
        ap (λ (t : ℕ). living_at g (place_in (world_of g) t)) (sym id)
        ∙ ap (living_at g) (place-there it is_in)
        ∙ ap (placed_at it.place) (ant-there it is_in (within_of ants on it is_in))
        ∙ sym only

  living-below : (n : ℕ) → living g n ≡ below n ants
  living-below zero = sym (none_below ants 0 0 rise (omega arith))
  living-below (suc n) = ap (λ l. l ++ living_at g (place_in (world_of g) n)) (living-below n) ∙ ap (λ l. below n ants ++ l) (living-one n) ∙ sym (below-more ants 0 n rise)

  -- the living ants of the world are the ants of the lines
  pub living-all : AllByRecursion (λ (it : PlacedAnt). it.ant.id < g.ids) ants → living g g.ids ≡ ants
  living-all all = living-below g.ids ∙ all-below ants g.ids all
