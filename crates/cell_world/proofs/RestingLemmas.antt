-- Ants with other resting counts: what a world keeps, and where they stand; and how bodies are distinguished one after
-- another.
use Rattle.std.proofs.Common.{◌≡◌, ◌≢◌, ◌⊎◌, inl, inr, ℕ, zero, suc, ◌+◌, ◌-◌, ◌<◌, ◌≤◌, Bool, true, false, cond, List, [], ◌∷◌, ◌++◌, length, map, take, set, get_or, Option, Some, None, refl, sym, ap, ap₂, ◌∙◌, subst, arith, add-zero}
use Rattle.std.specs.Prelude.{option_map, nat_eq, nat_lt}
use Rattle.std.proofs.Math.Path.{fun_ext}
use Rattle.std.proofs.Math.ListN as by_number
use Rattle.std.proofs.lemmas.Bool.{cases_Bool, cases_eq, ltb-true, ltb-false, cond-true, cond-false, le-ltb, lt-ltb}
use Rattle.std.proofs.lemmas.List.{append-nil, get_or-map, get_or-set_other, get_or-set_same, length-map, length-set, take-set, take_more_set}
use Rattle.std.proofs.lemmas.Simd.{map-map}
use Rattle.std.proofs.lemmas.Option.{same_Some}
use Rattle.hex_geometry.specs.declared.position.Pos.{Pos}
use Rattle.hex_geometry.specs.RowOrder.{index_of}
use Rattle.cell_world.specs.declared.ant.Ant.{Ant}
use Rattle.cell_world.specs.declared.body.Body.{Body}
use Rattle.cell_world.specs.declared.cell.Cell.{Cell}
use Rattle.cell_world.specs.declared.tile.Tile.{Tile}
use Rattle.cell_world.specs.Cell.{ant_weight, one_if, cell_weight, holds_id, is_ant, rock}
use Rattle.cell_world.specs.Grid.{IsWorld, cell_in, world_of}
use Rattle.cell_world.specs.Limits.{most_weight}
use Rattle.cell_world.specs.Resting.{ActsListed, ids_where, one_less, with_rest, with_rest_in, with_rests}
use Rattle.cell_world.specs.Valid.{Valid}
use Rattle.cell_world.specs.World.{Cells, World, area, place_in, sum_over, weight}
use Rattle.cell_world.specs.Inner.CatchUp.{body_of}
use Rattle.cell_world.specs.Inner.Index.{IsIndex}
use Rattle.cell_world.specs.Inner.Stored.{ant_from, ant_named, cell_from, grid_from, no_body, occupant_id, stored_places, tile_of}
use Rattle.cell_world.specs.Inner.ToldApart.{ToldApart, acts_by, with_resting}
use Rattle.cell_world.proofs.Places.{first_of-same, holds_id-own}
use Rattle.cell_world.proofs.StoredLemmas.{ant-read}
use Rattle.cell_world.proofs.ValidLemmas.{HasMarksOfSix-same}

-- below the first id nothing is another
pub one_less-before : (from to t rest : ℕ) → t < from → one_less from to t rest ≡ rest
unfolding one_less
one_less-before from to t rest early = cond-true _ _ _ (lt-ltb t from early)

-- the same either way
either_same : (b : Bool) (n : ℕ) → cond b n n ≡ n
either_same true n = refl
either_same false n = refl

-- nor from the end on
pub one_less-after : (from to t rest : ℕ) → to ≤ t → one_less from to t rest ≡ rest
unfolding one_less
one_less-after from to t rest late = ap (cond (nat_lt t from) rest) (cond-false _ (rest - 1) rest (le-ltb t to late)) ∙ either_same (nat_lt t from) rest

-- between the two there is one less to rest
pub one_less-among : (from to t rest : ℕ) → from ≤ t → t < to → one_less from to t rest ≡ rest - 1
unfolding one_less
one_less-among from to t rest late early = cond-false _ _ _ (le-ltb t from late) ∙ cond-true _ _ _ (lt-ltb t to early)

-- if there is nothing to rest, nothing is another
pub one_less-none : (from to t : ℕ) → one_less from to t 0 ≡ 0
unfolding one_less
one_less-none from to t = ap (cond (nat_lt t from) 0) (either_same (nat_lt t to) 0) ∙ either_same (nat_lt t from) 0

-- a number is below another or not
pub below_or_not : (t n : ℕ) → (t < n) ⊎ (n ≤ t)
below_or_not t n = elim (cases_Bool (nat_lt t n)) [ inl early ↦ inl (ltb-true t n early) | inr late ↦ inr (ltb-false t n late) ]

-- and where it is another, beyond
other_than : (t n : ℕ) → t ≢ n → n ≤ t → n + 1 ≤ t
other_than t n apart late = elim (below_or_not n t) [ inl below ↦ omega arith | inr same ↦ absurd (apart (omega arith)) ]

-- a number less itself
minus_self : (n : ℕ) → n - n ≡ 0
minus_self n = omega arith

-- among no ids nothing is another
pub nothing_among : (from t rest : ℕ) → one_less from from t rest ≡ rest
nothing_among from t rest = elim (below_or_not t from) [ inl early ↦ one_less-before from from t rest early | inr late ↦ one_less-after from from t rest late ]

-- an item in front, if there is one, of two lists
put_in_front : (b : Bool) (x : ℕ) (xs ys : List ℕ) → cond b (x ∷ xs ++ ys) (xs ++ ys) ≡ cond b (x ∷ xs) xs ++ ys
put_in_front true x xs ys = refl
put_in_front false x xs ys = refl

-- one id more at the end, for every other id
pub one_less-more : (from to t rest : ℕ) → t ≢ to → one_less from (to + 1) t rest ≡ one_less from to t rest
one_less-more from to t rest apart =
    elim (below_or_not t from) [
      | inl before ↦ one_less-before from (to + 1) t rest before ∙ sym (one_less-before from to t rest before)
      | inr late ↦ elim (below_or_not t to) [
        | inl early ↦ one_less-among from (to + 1) t rest late (omega arith) ∙ sym (one_less-among from to t rest late early)
        | inr after ↦ one_less-after from (to + 1) t rest (other_than t to apart after) ∙ sym (one_less-after from to t rest after)
      ]
    ]

-- one id less at the beginning, for every other id
pub one_less-fewer : (from to t rest : ℕ) → t ≢ from → one_less (from + 1) to t rest ≡ one_less from to t rest
one_less-fewer from to t rest apart =
    elim (below_or_not t from) [
      | inl before ↦ one_less-before (from + 1) to t rest (omega arith) ∙ sym (one_less-before from to t rest before)
      | inr late ↦ elim (below_or_not t to) [
        | inl early ↦ one_less-among (from + 1) to t rest (other_than t from apart late) early ∙ sym (one_less-among from to t rest late early)
        | inr after ↦ one_less-after (from + 1) to t rest after ∙ sym (one_less-after from to t rest after)
      ]
    ]

-- one id more is listed where the test holds for it
ids_where-more : (test : ℕ → Bool) (from n : ℕ) → ids_where test from (suc n) ≡ ids_where test from n ++ cond (test (from + n)) ((from + n) ∷ []) []
ids_where-more test from zero = ap (λ t. cond (test t) (t ∷ []) []) (sym (add-zero from))
ids_where-more test from (suc n) =
    let next : from + 1 + n ≡ from + suc n = omega arith in
    let later : ids_where test (from + 1) (suc n) ≡ ids_where test (from + 1) n ++ cond (test (from + suc n)) ((from + suc n) ∷ []) [] =
    ids_where-more test (from + 1) n ∙ ap (λ t. ids_where test (from + 1) n ++ cond (test t) (t ∷ []) []) next in
    ap (λ ids. cond (test from) (from ∷ ids) ids) later
    ∙ put_in_front (test from) from (ids_where test (from + 1) n) (cond (test (from + suc n)) ((from + suc n) ∷ []) [])

-- nobody is distinguished yet
pub ToldApart-none : (bodies : List Body) (from : ℕ) (acting : List ℕ) → ToldApart bodies bodies from from (take 0 acting)
ToldApart-none bodies from acting = record {
  all_ids = refl;
  each = λ t. ap (with_resting (body_of bodies t)) (sym (nothing_among from t (body_of bodies t).resting));
  acting = ap (ids_where (acts_by bodies) from) (sym (minus_self from));
}

-- one more is distinguished
pub ToldApart-more : (old new : List Body) (from id : ℕ) (acting : List ℕ) (count : ℕ) (body : Body) → ToldApart old new from id (take count acting) → from ≤ id → id < length new → count < length acting
    → body ≡ with_resting (body_of new id) ((body_of new id).resting - 1) → (acts : Bool) → acts ≡ nat_eq (body_of new id).resting 0 → ToldApart old (set new id body) from (id + 1) (take (count + one_if acts) (set acting count id))
ToldApart-more old new from id acting count body told late made room is acts acts_is =
    let own : body_of new id ≡ with_resting (body_of old id) (body_of old id).resting = told.each id ∙ ap (with_resting (body_of old id)) (one_less-after from id id (body_of old id).resting (omega arith)) in
    record {
      all_ids = length-set new id body ∙ told.all_ids;
      each = λ t. elim (cases_eq t id) [
        | inl same ↦
            subst (λ u. body_of (set new id body) u ≡ with_resting (body_of old u) (one_less from (id + 1) u (body_of old u).resting)) (sym same)
            (get_or-set_same new id body no_body made
            ∙ is
            ∙ ap (λ (b : Body). with_resting b (b.resting - 1)) own
            ∙ ap (with_resting (body_of old id)) (sym (one_less-among from (id + 1) id (body_of old id).resting late (omega arith))))
        | inr apart ↦
            get_or-set_other new id t body no_body apart
            ∙ told.each t
            ∙ ap (with_resting (body_of old t)) (sym (one_less-more from id t (body_of old t).resting apart))
      ];
      acting = told_more acts (acts_is ∙ ap (λ (b : Body). nat_eq b.resting 0) own);
    }
  where
    told_more : (b : Bool) → b ≡ acts_by old id → take (count + one_if b) (set acting count id) ≡ ids_where (acts_by old) from (id + 1 - from)
    told_more b same =
        let more : ids_where (acts_by old) from (id + 1 - from) ≡ take count acting ++ cond b (id ∷ []) [] =
        ap (ids_where (acts_by old) from) (let e : id + 1 - from ≡ suc (id - from) = omega arith in e)
        ∙ ids_where-more (acts_by old) from (id - from)
        ∙ ap₂ (λ ids t. ids ++ cond (acts_by old t) (t ∷ []) []) (sym told.acting) (let e : from + (id - from) ≡ id = omega arith in e)
        ∙ ap (λ c. take count acting ++ cond c (id ∷ []) []) (sym same) in
        taken b ∙ sym more
      where
        taken : (b : Bool) → take (count + one_if b) (set acting count id) ≡ take count acting ++ cond b (id ∷ []) []
        taken true = take_more_set acting count id room
        taken false = ap (λ n. take n (set acting count id)) (add-zero count) ∙ take-set acting count id ∙ sym (append-nil (take count acting))

-- whatever the resting counts become, the same ant stands on each cell
module _ (f : ℕ → ℕ → ℕ) where
  is_ant-with_rest : (t : ℕ) (o : Option Ant) → is_ant t (option_map (with_rest f) o) ≡ is_ant t o
  is_ant-with_rest t None = refl
  is_ant-with_rest t (Some ant) = refl

  -- each ant is where it was
  pub place_in-with_rests : (w : World) (t : ℕ) → place_in (with_rests f w) t ≡ place_in w t
  unfolding place_in
  place_in-with_rests w t =
      first_of-same w.width (λ p. holds_id t (with_rest_in f (w.cells p))) (λ p. holds_id t (w.cells p)) (area w) (λ p. is_ant-with_rest t (w.cells p).ant)

  ant_weight-with_rest : (o : Option Ant) → ant_weight (option_map (with_rest f) o) ≡ ant_weight o
  ant_weight-with_rest None = refl
  ant_weight-with_rest (Some ant) = refl

  cell_weight-with_rest : (cell : Cell) → cell_weight (with_rest_in f cell) ≡ cell_weight cell
  unfolding cell_weight
  cell_weight-with_rest cell = ap (λ n. cell.food + n) (ant_weight-with_rest cell.ant)

  -- the world weighs what it weighed
  weight-with_rests : (w : World) → weight (with_rests f w) ≡ weight w
  unfolding weight
  weight-with_rests w = ap (λ (g : Pos → ℕ). sum_over w.width g (area w)) (fun_ext λ p. cell_weight-with_rest (w.cells p))

  -- rock stays rock
  rock-with_rest : with_rest_in f rock ≡ rock
  unfolding rock
  rock-with_rest = refl

  known-with_rest : (ids : ℕ) (o : Option Ant) → ((ant : Ant) → o ≡ Some ant → ant.id < ids) → (ant : Ant) → option_map (with_rest f) o ≡ Some ant → ant.id < ids
  known-with_rest ids None known ant is = absurd (cc)
  known-with_rest ids (Some before) known ant is = subst (λ (a : Ant). a.id < ids) (same_Some (with_rest f before) ant is) (known before refl)

  -- and it keeps what every world keeps
  pub Valid-with_rests : (w : World) → Valid w → Valid (with_rests f w)
  Valid-with_rests w valid = record {
    wide = valid.wide;
    narrow = valid.narrow;
    tall = valid.tall;
    low = valid.low;
    few = valid.few;
    rim = valid.rim;
    bare = λ p rocky. ap (with_rest_in f) (valid.bare p rocky) ∙ rock-with_rest;
    known = λ p. known-with_rest w.ids (w.cells p).ant (valid.known p);
    once = λ t p q at_p at_q. valid.once t p q (sym (is_ant-with_rest t (w.cells p).ant) ∙ at_p) (sym (is_ant-with_rest t (w.cells q).ant) ∙ at_q);
    six = λ p. HasMarksOfSix-same (w.cells p) (with_rest_in f (w.cells p)) refl refl (valid.six p);
    light = subst (λ n. n ≤ most_weight) (sym (weight-with_rests w)) valid.light;
  }

  -- bodies that are distinguished read as the ants with these counts
  pub record RestsRead (old new : List Body) : Type 0 where
    pub all_ids : length new ≡ length old
    pub each : (t : ℕ) → body_of new t ≡ with_resting (body_of old t) (f t (body_of old t).resting)

  module _ {old new : List Body} (read : RestsRead old new) where
    ant_named-with_rest : (o : Option ℕ) → ant_named new o ≡ option_map (with_rest f) (ant_named old o)
    unfolding ant_named
    ant_named-with_rest None = refl
    ant_named-with_rest (Some t) = ap (λ b. Some (ant_from t b)) (read.each t)

    cell_from-with_rest : (tile : Tile) → cell_from new tile ≡ with_rest_in f (cell_from old tile)
    cell_from-with_rest tile = let with : Option Ant → Cell = λ o. record (cell_from old tile) { ant = o } in ap with (ant_named-with_rest (occupant_id tile.ant))

    -- so the tiles read as the cells with these ants
    cells-with_rest : (tiles : List Tile) → map (cell_from new) tiles ≡ map (with_rest_in f) (map (cell_from old) tiles)
    cells-with_rest tiles = ap (λ (g : Tile → Cell). map g tiles) (fun_ext cell_from-with_rest) ∙ sym (map-map (with_rest_in f) (cell_from old) tiles)

    -- by position
    cell_in-with_rest : (width height : ℕ) (tiles : List Tile) (p : Pos) → cell_in (grid_from width height tiles new) p ≡ with_rest_in f (cell_in (grid_from width height tiles old) p)
    unfolding cell_in
    cell_in-with_rest width height tiles p =
        let i : ℕ = index_of width p in
        let cells : List Cell = map (cell_from old) tiles in
        let item : get_or (map (cell_from new) tiles) i rock ≡ with_rest_in f (get_or cells i rock) =
        ap (λ (list : List Cell). get_or list i rock) (cells-with_rest tiles)
        ∙ ap (get_or (map (with_rest_in f) cells) i) (sym rock-with_rest)
        ∙ by_number.get_or-map (with_rest_in f) cells i rock in
        ap (λ (c : Cell). cond (nat_lt p.x width) c rock) item
        ∙ chosen (nat_lt p.x width) (get_or cells i rock)
      where
        chosen : (b : Bool) (cell : Cell) → cond b (with_rest_in f cell) rock ≡ with_rest_in f (cond b cell rock)
        chosen true cell = refl
        chosen false cell = sym rock-with_rest

    -- the world that they stand for
    pub world_of-with_rests : (width height : ℕ) (tiles : List Tile) → world_of (grid_from width height tiles new) ≡ with_rests f (world_of (grid_from width height tiles old))
    world_of-with_rests width height tiles =
        let made : ℕ → Cells → World = λ n cells. record { width = width; height = height; ids = n; cells = cells } in
        ap₂ made read.all_ids (fun_ext (cell_in-with_rest width height tiles))

    -- each ant has the place that it had
    same_places : (t : ℕ) → (body_of new t).place ≡ (body_of old t).place
    same_places t = ap (λ (b : Body). b.place) (read.each t)

    pub stored-with_rests : (width height : ℕ) (tiles : List Tile) → IsWorld (grid_from width height tiles old) → IsIndex (grid_from width height tiles old) (stored_places old) →
        IsWorld (grid_from width height tiles new) × IsIndex (grid_from width height tiles new) (stored_places new)
    stored-with_rests width height tiles world index =
        let same : world_of (grid_from width height tiles new) ≡ with_rests f (world_of (grid_from width height tiles old)) = world_of-with_rests width height tiles in
        let first : IsWorld (grid_from width height tiles new) = record {
          full = length-map tiles (cell_from new) ∙ sym (length-map tiles (cell_from old)) ∙ world.full;
          valid = subst Valid (sym same) (Valid-with_rests (world_of (grid_from width height tiles old)) world.valid);
        } in
        let place : Body → Option Pos = λ b. b.place in
        let second : IsIndex (grid_from width height tiles new) (stored_places new) = record {
          all_ids = length-map new place;
          agrees = λ t none made.
              let before : t < length old = subst (λ n. t < n) read.all_ids made in
              get_or-map place new t no_body none made
              ∙ same_places t
              ∙ sym (get_or-map place old t no_body none before)
              ∙ index.agrees t none before
              ∙ sym (place_in-with_rests (world_of (grid_from width height tiles old)) t)
              ∙ ap (λ (w : World). place_in w t) (sym same);
        } in
        (first, second)

-- bodies that were distinguished have one less to rest
pub told-read : (old new : List Body) (from to : ℕ) (listed : List ℕ) → ToldApart old new from to listed → RestsRead (one_less from to) old new
told-read old new from to listed told = record { all_ids = told.all_ids; each = told.each }

-- the resting count of an ant that is read is its body's
named_resting : (bodies : List Body) (o : Option ℕ) (ant : Ant) → ant_named bodies o ≡ Some ant → (body_of bodies ant.id).resting ≡ ant.resting
unfolding ant_named
named_resting bodies None ant is = absurd (cc)
named_resting bodies (Some t) ant is =
    let same : ant_from t (body_of bodies t) ≡ ant = same_Some (ant_from t (body_of bodies t)) ant is in
    subst (λ (a : Ant). (body_of bodies a.id).resting ≡ a.resting) same refl

-- even if a cell has it
pub ant-resting : (width height : ℕ) (tiles : List Tile) (bodies : List Body) (p : Pos) (ant : Ant) → IsWorld (grid_from width height tiles bodies) → (cell_in (grid_from width height tiles bodies) p).ant ≡ Some ant → (body_of bodies ant.id).resting ≡ ant.resting
ant-resting width height tiles bodies p ant world is =
    let holds : holds_id ant.id (cell_in (grid_from width height tiles bodies) p) ≡ true = holds_id-own (cell_in (grid_from width height tiles bodies) p) ant is in
    named_resting bodies (Some ant.id) ant (sym (ant-read width height tiles bodies ant.id p (tile_of rock) world holds).1 ∙ is)

-- and those that don't rest are listed, as the cells have them
pub told-listed : (width height : ℕ) (tiles : List Tile) (old new : List Body) (from to : ℕ) (listed : List ℕ) → IsWorld (grid_from width height tiles old) → ToldApart old new from to listed →
    ActsListed (world_of (grid_from width height tiles old)) from (to - from) listed
told-listed width height tiles old new from to listed world told = record {
  acts = acts_by old;
  are = told.acting;
  each = λ p ant is _ _. ap (λ n. nat_eq n 0) (ant-resting width height tiles old p ant world is);
}
