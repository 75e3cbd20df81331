-- What a world keeps, brought up to what another keeps.
use Rattle.std.proofs.Common.{◌≡◌, ◌≢◌, inl, inr, ⊎_elim, ℕ, ◌+◌, ◌*◌, ◌<◌, ◌≤◌, Bool, true, false, nat_eq, List, [], ◌∷◌, length, map, drop, get_or, set, Option, Some, None, option_map, refl, sym, ◌∙◌, ap, ap₂, subst, arith}
use Rattle.std.specs.List.{Contains}
use Rattle.std.proofs.lemmas.Bool.{cases_eq, cond-false, cond-true, eqb-true, eq-eqb}
use Rattle.std.proofs.lemmas.List.{at_drop_all, drop_more, ext_get_or, get_or_default, get_or-map, get_or-set_other, get_or-set_same, length-map, length-set}
use Rattle.list_lemmas.proofs.Elements.{Contains-cases}
use Rattle.hex_geometry.specs.declared.direction.Dir.{Dir}
use Rattle.hex_geometry.specs.declared.position.Pos.{Pos}
use Rattle.hex_geometry.specs.Position.{IsInside}
use Rattle.cell_world.specs.declared.ant.Ant.{Ant}
use Rattle.cell_world.specs.declared.ant.Colour.{Colour}
use Rattle.cell_world.specs.declared.body.Body.{Body}
use Rattle.cell_world.specs.declared.cell.Cell.{Cell}
use Rattle.cell_world.specs.declared.marks.Marks.{Marks}
use Rattle.cell_world.specs.declared.occupant.Occupant.{Occupant}
use Rattle.cell_world.specs.declared.tile.Tile.{Tile}
use Rattle.cell_world.specs.declared.world.World.TheInside.{Inside}
use Rattle.cell_world.specs.Inner.CatchUp.{Catching, Followed, IsCaught, Names, SameTile, body_of}
use Rattle.cell_world.specs.Cell.{holds_id, is_ant, rock}
use Rattle.cell_world.specs.Grid.{Grid, IsWorld, cell_in, world_of}
use Rattle.hex_geometry.proofs.RowLemmas.{index_of-inside, index_of-pos_at, pos_at-inside}
use Rattle.hex_geometry.specs.RowOrder.{index_of, pos_at}
use Rattle.cell_world.specs.Inner.Index.{IsIndex}
use Rattle.cell_world.specs.Inner.Inside.{IsWellStored, grid_of}
use Rattle.cell_world.specs.Inner.Bodies.{IsMadeBody}
use Rattle.cell_world.specs.Inner.Stored.{ant_from, ant_named, cell_from, grid_from, no_body, nobody, occupant_id, stored_places}
use Rattle.cell_world.specs.World.{place_in}
use Rattle.cell_world.proofs.Patches.{some_one}
use Rattle.cell_world.proofs.Places.{place_in-found, place_in-holds, place_in-inside}
use Rattle.cell_world.proofs.StoredLemmas.{ant-read, cell_in-tile_at, tile-made}

-- one step: the tile of a number becomes the other world's, and so do the bodies of the ants that were and are on it
module _ (width : ℕ) (was tiles others : List Tile) (old bodies middle new other_bodies : List Body) (p : Pos) (rest : List Pos) (before_id : Option ℕ)
    (early : index_of width p < length was)
    (catching : Catching width was tiles others old bodies other_bodies (p ∷ rest))
    (is_before : (d : Tile) → before_id ≡ occupant_id (get_or tiles (index_of width p) d).ant)
    (tile : Tile) (is_tile : (d : Tile) → tile ≡ get_or others (index_of width p) d)
    (first : Followed bodies middle other_bodies before_id)
    (second : Followed middle new other_bodies (occupant_id tile.ant)) where
  -- a body that is the other world's stays so
  stays : (t : ℕ) → t < length bodies → body_of bodies t ≡ body_of other_bodies t → body_of new t ≡ body_of other_bodies t
  stays t made same = ⊎_elim
      (λ e. e ∙ ⊎_elim (λ f. f ∙ same) (λ f. f) (first.either t made))
      (λ e. e)
      (second.either t (subst (λ n. t < n) (sym first.all_ids) made))

  -- the bodies of the ants that were and are here
  had : (t : ℕ) → t < length bodies → before_id ≡ Some t → body_of new t ≡ body_of other_bodies t
  had t made is = ⊎_elim (λ e. e ∙ first.own t made is) (λ e. e) (second.either t (subst (λ n. t < n) (sym first.all_ids) made))

  has : (t : ℕ) → t < length bodies → occupant_id tile.ant ≡ Some t → body_of new t ≡ body_of other_bodies t
  has t made is = second.own t (subst (λ n. t < n) (sym first.all_ids) made) is

  same_ids : length new ≡ length bodies
  same_ids = second.all_ids ∙ first.all_ids

  here_early : index_of width p < length tiles
  here_early = subst (λ n. index_of width p < n) (sym catching.all_tiles) early

  tile_here : SameTile (set tiles (index_of width p) tile) others (index_of width p)
  tile_here d = get_or-set_same tiles (index_of width p) tile d here_early ∙ is_tile d

  tile_else : (i : ℕ) → i ≢ index_of width p → (d : Tile) → get_or (set tiles (index_of width p) tile) i d ≡ get_or tiles i d
  tile_else i apart d = get_or-set_other tiles (index_of width p) i tile d apart

  -- what is caught stays so
  caught_stays : (i : ℕ) → IsCaught was tiles others bodies other_bodies i → IsCaught was (set tiles (index_of width p) tile) others new other_bodies i
  caught_stays i caught = record {
    tile = ⊎_elim (λ same. subst (SameTile (set tiles (index_of width p) tile) others) (sym same) tile_here) (λ apart. λ d. tile_else i apart d ∙ caught.tile d) (cases_eq i (index_of width p));
    before = λ t made names. stays t (subst (λ n. t < n) same_ids made) (caught.before t (subst (λ n. t < n) same_ids made) names);
    after = λ t made names. stays t (subst (λ n. t < n) same_ids made) (caught.after t (subst (λ n. t < n) same_ids made) names);
  }

  -- what was here is caught now
  caught_here : IsCaught was (set tiles (index_of width p) tile) others new other_bodies (index_of width p)
  caught_here = ⊎_elim
      (λ same. record {
        tile = tile_here;
        before = λ t made names. had t (subst (λ n. t < n) same_ids made) (is_before tile ∙ ap (λ (o : Tile). occupant_id o.ant) (same tile) ∙ names tile);
        after = λ t made names. has t (subst (λ n. t < n) same_ids made) (ap (λ (o : Tile). occupant_id o.ant) (is_tile tile) ∙ names tile);
      })
      (λ caught. caught_stays (index_of width p) caught)
      (catching.each (index_of width p) early)

  pub Catching-step : Catching width was (set tiles (index_of width p) tile) others old new other_bodies rest
  Catching-step = record {
    all_tiles = length-set tiles (index_of width p) tile ∙ catching.all_tiles;
    all_ids = same_ids ∙ catching.all_ids;
    either = λ t made. ⊎_elim
        (λ e. ⊎_elim
        (λ f. ⊎_elim (λ g. inl (e ∙ f ∙ g)) (λ g. inr (e ∙ f ∙ g)) (catching.either t made))
        (λ f. inr (e ∙ f))
        (first.either t (subst (λ n. t < n) (sym catching.all_ids) made)))
        inr
        (second.either t (subst (λ n. t < n) (sym first.all_ids) (subst (λ n. t < n) (sym catching.all_ids) made)));
    each = λ i within. ⊎_elim
        (λ same. inr (subst (IsCaught was (set tiles (index_of width p) tile) others new other_bodies) (sym same) caught_here))
        (λ apart. ⊎_elim (λ still. inl (λ d. tile_else i apart d ∙ still d)) (λ caught. inr (caught_stays i caught)) (catching.each i within))
        (cases_eq i (index_of width p));
    done = λ i within none. ⊎_elim
        (λ same. subst (IsCaught was (set tiles (index_of width p) tile) others new other_bodies) (sym same) caught_here)
        (λ apart. caught_stays i (catching.done i within (λ q held. ⊎_elim
        (λ first_is. λ e. apart (sym e ∙ ap (index_of width) (sym first_is)))
        (λ later. none q later)
        (Contains-cases p q rest held))))
        (cases_eq i (index_of width p));
  }

-- two occupants of one id are one
occupant-same : (a b : Occupant) → occupant_id a ≡ occupant_id b → a ≡ b
occupant-same a b same = go (nat_eq a.number nobody) refl (nat_eq b.number nobody) refl where
  made : ℕ → Occupant
  made n = record { number = n }

  go : (x : Bool) → nat_eq a.number nobody ≡ x → (y : Bool) → nat_eq b.number nobody ≡ y → a ≡ b
  go true is_a true is_b = ap (λ n. record { number = n }) (eqb-true a.number nobody is_a ∙ sym (eqb-true b.number nobody is_b))
  go true is_a false is_b =
      let clash : None ≡ Some b.number = sym (cond-true _ None (Some a.number) is_a) ∙ same ∙ cond-false _ None (Some b.number) is_b in cc
  go false is_a true is_b =
      let clash : Some a.number ≡ None = sym (cond-false _ None (Some a.number) is_a) ∙ same ∙ cond-true _ None (Some b.number) is_b in cc
  go false is_a false is_b =
      let both : Some a.number ≡ Some b.number = sym (cond-false _ None (Some a.number) is_a) ∙ same ∙ cond-false _ None (Some b.number) is_b in
      ap (λ n. record { number = n }) (some_one both)

-- the id of an ant that is read
ant_named-id : (bodies others : List Body) (a b : Option ℕ) → ant_named bodies a ≡ ant_named others b → a ≡ b
unfolding ant_named
ant_named-id bodies others None None same = refl
ant_named-id bodies others (Some t) (Some u) same = ap (λ (o : Option Ant). option_map (λ (ant : Ant). ant.id) o) same
ant_named-id bodies others it that same = cc

-- tiles that read as one cell are one
tile-same : (bodies others : List Body) (one other : Tile) → cell_from bodies one ≡ cell_from others other → one ≡ other
tile-same bodies others one other same =
    let made : ℕ → Occupant → Bool → Option Colour → Marks → Marks → Tile = λ f o r h m n. record { food = f; ant = o; rocky = r; hill = h; red = m; black = n } in
    let who : one.ant ≡ other.ant = occupant-same one.ant other.ant (ant_named-id bodies others (occupant_id one.ant) (occupant_id other.ant) (ap (λ (c : Cell). c.ant) same)) in
    ap (λ f. made f one.ant one.rocky one.hill one.red one.black) (ap (λ (c : Cell). c.food) same)
    ∙ ap (λ o. made other.food o one.rocky one.hill one.red one.black) who
    ∙ ap (λ r. made other.food other.ant r one.hill one.red one.black) (ap (λ (c : Cell). c.rocky) same)
    ∙ ap (λ h. made other.food other.ant other.rocky h one.red one.black) (ap (λ (c : Cell). c.hill) same)
    ∙ ap (λ m. made other.food other.ant other.rocky other.hill m one.black) (ap (λ (c : Cell). c.red) same)
    ∙ ap (λ n. made other.food other.ant other.rocky other.hill other.red n) (ap (λ (c : Cell). c.black) same)

-- bodies that are read as one ant, at one place, are one
body-same : (t : ℕ) (one other : Body) → ant_from t one ≡ ant_from t other → one.place ≡ other.place → one ≡ other
body-same t one other same place =
    let made : Option Pos → ℕ → ℕ → Dir → Colour → Bool → Body = λ p s r f c l. record { place = p; state = s; resting = r; facing = f; colour = c; laden = l } in
    ap (λ p. made p one.state one.resting one.facing one.colour one.laden) place
    ∙ ap (λ s. made other.place s one.resting one.facing one.colour one.laden) (ap (λ (a : Ant). a.state) same)
    ∙ ap (λ r. made other.place other.state r one.facing one.colour one.laden) (ap (λ (a : Ant). a.resting) same)
    ∙ ap (λ f. made other.place other.state other.resting f one.colour one.laden) (ap (λ (a : Ant). a.facing) same)
    ∙ ap (λ c. made other.place other.state other.resting other.facing c one.laden) (ap (λ (a : Ant). a.colour) same)
    ∙ ap (λ l. made other.place other.state other.resting other.facing other.colour l) (ap (λ (a : Ant). a.laden) same)

-- a body has its ant's place
body-place : (width height : ℕ) (tiles : List Tile) (bodies : List Body) (t : ℕ) → IsIndex (grid_from width height tiles bodies) (stored_places bodies) → t < length bodies →
    (body_of bodies t).place ≡ place_in (world_of (grid_from width height tiles bodies)) t
body-place width height tiles bodies t index made =
    sym (get_or-map (λ (b : Body). b.place) bodies t no_body None made) ∙ index.agrees t None made

-- what a tile names is there
named-holds : (width height : ℕ) (tiles : List Tile) (bodies : List Body) (p : Pos) (t : ℕ) → IsWorld (grid_from width height tiles bodies) → IsInside width height p → Names tiles (index_of width p) t →
    holds_id t (cell_in (grid_from width height tiles bodies) p) ≡ true
unfolding ant_named
named-holds width height tiles bodies p t world inside names =
    let d : Tile = record { food = 0; ant = record { number = nobody }; rocky = true; hill = None; red = rock.red; black = rock.black } in
    let who : (cell_in (grid_from width height tiles bodies) p).ant ≡ ant_named bodies (Some t) =
    ap (λ (c : Cell). c.ant) (cell_in-tile_at width height tiles bodies p d world inside) ∙ ap (ant_named bodies) (names d) in
    ap (is_ant t) who ∙ eq-eqb t t refl

-- some tile, to stand for one beyond the last
some_tile : Tile
some_tile = record { food = 0; ant = record { number = nobody }; rocky = true; hill = None; red = rock.red; black = rock.black }

-- what is kept of two worlds of one size and number of ids
module _ (width height : ℕ) (was others : List Tile) (old other_bodies : List Body)
    (world : IsWorld (grid_from width height was old)) (index : IsIndex (grid_from width height was old) (stored_places old))
    (other_world : IsWorld (grid_from width height others other_bodies)) (other_index : IsIndex (grid_from width height others other_bodies) (stored_places other_bodies))
    (same_ids : length old ≡ length other_bodies) where
  full : length was ≡ width * height
  full = sym (length-map was (cell_from old)) ∙ world.full

  other_full : length others ≡ width * height
  other_full = sym (length-map others (cell_from other_bodies)) ∙ other_world.full

  -- if a position has one cell in both, what is kept of it is the same
  module _ (p : Pos) (inside : IsInside width height p) (same : cell_in (grid_from width height was old) p ≡ cell_in (grid_from width height others other_bodies) p) where
    content : (d : Tile) → cell_from old (get_or was (index_of width p) d) ≡ cell_from other_bodies (get_or others (index_of width p) d)
    content d = sym (cell_in-tile_at width height was old p d world inside) ∙ same ∙ cell_in-tile_at width height others other_bodies p d other_world inside

    one_tile : (d : Tile) → get_or was (index_of width p) d ≡ get_or others (index_of width p) d
    one_tile d = tile-same old other_bodies (get_or was (index_of width p) d) (get_or others (index_of width p) d) (content d)

    one_body : (t : ℕ) → t < length old → Names was (index_of width p) t → body_of old t ≡ body_of other_bodies t
    unfolding ant_named
    one_body t made names =
        let other_names : Names others (index_of width p) t = λ d. ap (λ (o : Tile). occupant_id o.ant) (sym (one_tile d)) ∙ names d in
        let who : ant_named old (Some t) ≡ ant_named other_bodies (Some t) =
        ap (ant_named old) (sym (names some_tile)) ∙ ap (λ (c : Cell). c.ant) (content some_tile) ∙ ap (ant_named other_bodies) (other_names some_tile) in
        let mine : place_in (world_of (grid_from width height was old)) t ≡ Some p = place_in-found (world_of (grid_from width height was old)) t p world.valid (named-holds width height was old p t world inside names) in
        let theirs : place_in (world_of (grid_from width height others other_bodies)) t ≡ Some p =
        place_in-found (world_of (grid_from width height others other_bodies)) t p other_world.valid (named-holds width height others other_bodies p t other_world inside other_names) in
        body-same t (body_of old t) (body_of other_bodies t) (some_one who)
        (body-place width height was old t index made ∙ mine ∙ sym theirs ∙ sym (body-place width height others other_bodies t other_index (subst (λ n. t < n) same_ids made)))

    caught_already : IsCaught was was others old other_bodies (index_of width p)
    caught_already = record {
      tile = one_tile;
      before = one_body;
      after = λ t made names. one_body t made (λ d. ap (λ (o : Tile). occupant_id o.ant) (one_tile d) ∙ names d);
    }

  -- before the first position
  pub Catching-start : (places : List Pos) → ((p : Pos) → ¬ Contains places p → cell_in (grid_from width height was old) p ≡ cell_in (grid_from width height others other_bodies) p) → Catching width was was others old old other_bodies places
  Catching-start places same = record {
    all_tiles = refl;
    all_ids = refl;
    either = λ t made. inl refl;
    each = λ i within. inl (λ d. refl);
    done = λ i within none.
        let p : Pos = pos_at width i in
        let back : index_of width p ≡ i = index_of-pos_at width i in
        let inside : IsInside width height p = pos_at-inside width height i (subst (λ n. i < n) full within) in
        subst (IsCaught was was others old other_bodies) back (caught_already p inside (same p (λ held. none p held back)));
  }

  -- after the last
  module _ (tiles : List Tile) (bodies : List Body) (catching : Catching width was tiles others old bodies other_bodies []) where
    caught : (i : ℕ) → i < length was → IsCaught was tiles others bodies other_bodies i
    caught i within = catching.done i within (λ p held. absurd (let l : held.0 < 0 = held.1 in omega arith))

    tiles_equal : tiles ≡ others
    tiles_equal = ext_get_or some_tile tiles others (catching.all_tiles ∙ full ∙ sym other_full) (λ i below. (caught i (subst (λ n. i < n) catching.all_tiles below)).tile some_tile)

    ids_equal : length bodies ≡ length other_bodies
    ids_equal = catching.all_ids ∙ same_ids

    -- the ant of a tile
    ant_equal : (i : ℕ) → i < length was → (o : Option ℕ) → occupant_id (get_or others i some_tile).ant ≡ o → IsMadeBody (length other_bodies) o → ant_named bodies o ≡ ant_named other_bodies o
    unfolding ant_named
    ant_equal i within None is made = refl
    ant_equal i within (Some t) is made =
        let names : Names others i t = λ d. ap (λ (o : Tile). occupant_id o.ant) (get_or_default others i d some_tile (subst (λ n. i < n) (full ∙ sym other_full) within)) ∙ is in
        ap (λ b. Some (ant_from t b)) ((caught i within).after t (subst (λ n. t < n) (sym ids_equal) made) names)

    cell_equal : (i : ℕ) → i < length was → cell_from bodies (get_or others i some_tile) ≡ cell_from other_bodies (get_or others i some_tile)
    cell_equal i within =
        let tile : Tile = get_or others i some_tile in
        let with : Option Ant → Cell = λ o. record { rocky = tile.rocky; hill = tile.hill; food = tile.food; red = tile.red; black = tile.black; ant = o } in
        let p : Pos = pos_at width i in
        let inside : IsInside width height p = pos_at-inside width height i (subst (λ n. i < n) full within) in
        let back : i ≡ index_of width p = sym (index_of-pos_at width i) in
        let made : IsMadeBody (length other_bodies) (occupant_id tile.ant) = tile-made width height others other_bodies p (index_of width p) tile other_world inside refl
        (ap (λ k. get_or others k some_tile) back ∙ get_or_default others (index_of width p) some_tile tile (subst (λ n. index_of width p < n) (sym other_full) (index_of-inside width height p inside))) in
        ap with (ant_equal i within (occupant_id tile.ant) refl made)

    cells_equal : map (cell_from bodies) tiles ≡ map (cell_from other_bodies) others
    cells_equal = ap (map (cell_from bodies)) tiles_equal ∙ ext_get_or rock (map (cell_from bodies) others) (map (cell_from other_bodies) others)
        (length-map others (cell_from bodies) ∙ sym (length-map others (cell_from other_bodies)))
        (λ i below.
        let here : i < length others = subst (λ n. i < n) (length-map others (cell_from bodies)) below in
        get_or-map (cell_from bodies) others i some_tile rock here ∙ cell_equal i (subst (λ n. i < n) (other_full ∙ sym full) here) ∙ sym (get_or-map (cell_from other_bodies) others i some_tile rock here))

    pub grid_equal : grid_from width height tiles bodies ≡ grid_from width height others other_bodies
    grid_equal =
        let made : ℕ → List Cell → Grid = λ n cells. record { width = width; height = height; ids = n; cells = cells } in
        ap₂ made ids_equal cells_equal

    -- each body has the place that its ant has in the other world
    module _ (t : ℕ) (made : t < length old) where
      abbrev there : ℕ → Option Pos
      there u = place_in (world_of (grid_from width height others other_bodies)) u

      followed : body_of bodies t ≡ body_of other_bodies t → (body_of bodies t).place ≡ there t
      followed same = ap (λ (b : Body). b.place) same ∙ body-place width height others other_bodies t other_index (subst (λ n. t < n) same_ids made)

      still_made : t < length bodies
      still_made = subst (λ n. t < n) (sym catching.all_ids) made

      early : (p : Pos) → IsInside width height p → index_of width p < length was
      early p inside = subst (λ n. index_of width p < n) (sym full) (index_of-inside width height p inside)

      stayed : body_of bodies t ≡ body_of old t → (mine theirs : Option Pos) → place_in (world_of (grid_from width height was old)) t ≡ mine → there t ≡ theirs → (body_of bodies t).place ≡ there t
      stayed same (Some p) theirs is is_there =
          followed ((caught (index_of width p) (early p (place_in-inside (world_of (grid_from width height was old)) t p is))).before t still_made
          (λ d. (ant-read width height was old t p d world (place_in-holds (world_of (grid_from width height was old)) t p is)).0))
      stayed same None (Some q) is is_there =
          followed ((caught (index_of width q) (early q (place_in-inside (world_of (grid_from width height others other_bodies)) t q is_there))).after t still_made
          (λ d. (ant-read width height others other_bodies t q d other_world (place_in-holds (world_of (grid_from width height others other_bodies)) t q is_there)).0))
      stayed same None None is is_there =
          ap (λ (b : Body). b.place) same ∙ body-place width height was old t index made ∙ is ∙ sym is_there

      place_equal : (body_of bodies t).place ≡ there t
      place_equal = ⊎_elim
          (λ same. stayed same (place_in (world_of (grid_from width height was old)) t) (there t) refl refl)
          (λ same. followed same)
          (catching.either t made)

    pub index_equal : IsIndex (grid_from width height others other_bodies) (stored_places bodies)
    index_equal = record {
      all_ids = length-map bodies (λ (b : Body). b.place) ∙ ids_equal;
      agrees = λ t none made.
          get_or-map (λ (b : Body). b.place) bodies t no_body none (subst (λ n. t < n) (sym ids_equal) made)
          ∙ place_equal t (subst (λ n. t < n) (sym same_ids) made);
    }

-- one step of the loop, if the position was found to have this number
pub Catching-go : (width : ℕ) (was tiles others : List Tile) (old bodies middle new other_bodies : List Body) (places : List Pos) (i k : ℕ) (d : Pos) (tile : Tile) (before_id : Option ℕ) (here : Tile) →
    i < length places → index_of width (get_or places i d) < length was → length others ≡ length was → Catching width was tiles others old bodies other_bodies (drop i places) →
    k ≡ index_of width (get_or places i d) → tile ≡ get_or others k tile → here ≡ get_or tiles k here → before_id ≡ occupant_id here.ant → Followed bodies middle other_bodies before_id → Followed middle new other_bodies (occupant_id tile.ant) →
    Catching width was (set tiles k tile) others old new other_bodies (drop (i + 1) places)
Catching-go width was tiles others old bodies middle new other_bodies places i k d tile before_id here below early long catching at is_tile is_here is_before first second =
    let p : Pos = get_or places i d in
    let now : Catching width was tiles others old bodies other_bodies (p ∷ drop (i + 1) places) = subst (Catching width was tiles others old bodies other_bodies) (drop_more places i d below) catching in
    let in_tiles : k < length tiles = subst (λ n. n < length tiles) (sym at) (subst (λ n. index_of width p < n) (sym now.all_tiles) early) in
    let in_others : k < length others = subst (λ n. n < length others) (sym at) (subst (λ n. index_of width p < n) (sym long) early) in
    subst (λ n. Catching width was (set tiles n tile) others old new other_bodies (drop (i + 1) places)) (sym at)
    (Catching-step width was tiles others old bodies middle new other_bodies p (drop (i + 1) places) before_id early now
    (λ t. is_before ∙ ap (λ (o : Tile). occupant_id o.ant) (is_here ∙ get_or_default tiles k here t in_tiles ∙ ap (λ n. get_or tiles n t) at))
    tile (λ t. is_tile ∙ get_or_default others k tile t in_others ∙ ap (λ n. get_or others n t) at) first second)

-- what two worlds keep, of which the one is brought up to the other
pub record Pair (fields others : Inside) : Type 0 where
  pub world : IsWorld (grid_from fields.width fields.height fields.tiles.items fields.bodies.items)
  pub index : IsIndex (grid_from fields.width fields.height fields.tiles.items fields.bodies.items) (stored_places fields.bodies.items)
  pub other_world : IsWorld (grid_from fields.width fields.height others.tiles.items others.bodies.items)
  pub other_index : IsIndex (grid_from fields.width fields.height others.tiles.items others.bodies.items) (stored_places others.bodies.items)
  pub same_ids : length fields.bodies.items ≡ length others.bodies.items
  pub same_grid : grid_from fields.width fields.height others.tiles.items others.bodies.items ≡ grid_of others

pub Pair-of : (fields others : Inside) (now other : Grid) → IsWellStored fields → IsWellStored others → grid_of fields ≡ now → grid_of others ≡ other → now.width ≡ other.width → now.height ≡ other.height → now.ids ≡ other.ids → Pair fields others
Pair-of fields others now other kept other_kept is other_is width height ids =
    let same : grid_from fields.width fields.height others.tiles.items others.bodies.items ≡ grid_of others =
    ap₂ (λ (x y : ℕ). grid_from x y others.tiles.items others.bodies.items)
    (ap (λ (g : Grid). g.width) is ∙ width ∙ sym (ap (λ (g : Grid). g.width) other_is))
    (ap (λ (g : Grid). g.height) is ∙ height ∙ sym (ap (λ (g : Grid). g.height) other_is)) in
    record {
      world = kept.world;
      index = kept.index;
      other_world = subst IsWorld (sym same) other_kept.world;
      other_index = subst (λ (g : Grid). IsIndex g (stored_places others.bodies.items)) (sym same) other_kept.index;
      same_ids = ap (λ (g : Grid). g.ids) is ∙ ids ∙ sym (ap (λ (g : Grid). g.ids) other_is);
      same_grid = same;
    }

module _ (fields others : Inside) (pair : Pair fields others) where
  pub pair-long : length others.tiles.items ≡ length fields.tiles.items
  pair-long =
      other_full fields.width fields.height fields.tiles.items others.tiles.items fields.bodies.items others.bodies.items pair.world pair.index pair.other_world pair.other_index pair.same_ids
      ∙ sym (full fields.width fields.height fields.tiles.items others.tiles.items fields.bodies.items others.bodies.items pair.world pair.index pair.other_world pair.other_index pair.same_ids)

  pub pair-early : (p : Pos) → IsInside fields.width fields.height p → index_of fields.width p < length fields.tiles.items
  pair-early p inside =
      subst (λ n. index_of fields.width p < n)
      (sym (full fields.width fields.height fields.tiles.items others.tiles.items fields.bodies.items others.bodies.items pair.world pair.index pair.other_world pair.other_index pair.same_ids))
      (index_of-inside fields.width fields.height p inside)

  pub pair-start : (places : List Pos) (now other : Grid) → grid_of fields ≡ now → grid_of others ≡ other → ((p : Pos) → ¬ Contains places p → cell_in now p ≡ cell_in other p) →
      Catching fields.width fields.tiles.items fields.tiles.items others.tiles.items fields.bodies.items fields.bodies.items others.bodies.items places
  pair-start places now other is other_is same =
      Catching-start fields.width fields.height fields.tiles.items others.tiles.items fields.bodies.items others.bodies.items pair.world pair.index pair.other_world pair.other_index pair.same_ids places
      (λ p none. ap (λ (g : Grid). cell_in g p) is ∙ same p none ∙ sym (ap (λ (g : Grid). cell_in g p) (pair.same_grid ∙ other_is)))

  module _ (after : Inside) (width : after.width ≡ fields.width) (height : after.height ≡ fields.height)
      (catching : Catching fields.width fields.tiles.items after.tiles.items others.tiles.items fields.bodies.items after.bodies.items others.bodies.items []) where
    pub pair-grid : grid_of after ≡ grid_of others
    pair-grid =
        ap₂ (λ (x y : ℕ). grid_from x y after.tiles.items after.bodies.items) width height
        ∙ grid_equal fields.width fields.height fields.tiles.items others.tiles.items fields.bodies.items others.bodies.items pair.world pair.index pair.other_world pair.other_index pair.same_ids after.tiles.items after.bodies.items catching
        ∙ pair.same_grid

    pub pair-kept : IsWellStored others → IsWellStored after
    pair-kept other_kept = record {
      world = subst IsWorld (sym pair-grid) other_kept.world;
      index = subst (λ (g : Grid). IsIndex g (stored_places after.bodies.items)) (pair.same_grid ∙ sym pair-grid)
          (index_equal fields.width fields.height fields.tiles.items others.tiles.items fields.bodies.items others.bodies.items pair.world pair.index pair.other_world pair.other_index pair.same_ids after.tiles.items after.bodies.items catching);
    }

-- the last step is behind
pub Catching-end : (width : ℕ) (was tiles others : List Tile) (old bodies other_bodies : List Body) (places : List Pos) (i : ℕ) → length places ≤ i → Catching width was tiles others old bodies other_bodies (drop i places) → Catching width was tiles others old bodies other_bodies []
Catching-end width was tiles others old bodies other_bodies places i late catching = subst (Catching width was tiles others old bodies other_bodies) (at_drop_all (λ (ps : List Pos). ps) places i late) catching

-- all bodies at once
pub Catching-bodies : (width : ℕ) (was tiles others : List Tile) (old bodies other_bodies : List Body) (left : List Pos) → length other_bodies ≡ length old → Catching width was tiles others old bodies other_bodies left →
    Catching width was tiles others old other_bodies other_bodies left
Catching-bodies width was tiles others old bodies other_bodies left same catching = record {
  all_tiles = catching.all_tiles;
  all_ids = same;
  either = λ t made. inr refl;
  each = λ i within. ⊎_elim inl (λ caught. inr (record { tile = caught.tile; before = λ t made names. refl; after = λ t made names. refl })) (catching.each i within);
  done = λ i within none. record { tile = (catching.done i within none).tile; before = λ t made names. refl; after = λ t made names. refl };
}

-- one step of the loop over tiles
pub Catching-tile : (width : ℕ) (was tiles others : List Tile) (old bodies : List Body) (places : List Pos) (i k : ℕ) (d : Pos) (tile : Tile) →
    i < length places → index_of width (get_or places i d) < length was → length others ≡ length was → Catching width was tiles others old bodies bodies (drop i places) →
    k ≡ index_of width (get_or places i d) → tile ≡ get_or others k tile → Catching width was (set tiles k tile) others old bodies bodies (drop (i + 1) places)
Catching-tile width was tiles others old bodies places i k d tile below early long catching at is_tile =
    let here : Tile = get_or tiles k tile in
    let in_tiles : k < length tiles = subst (λ n. k < n) (sym catching.all_tiles) (subst (λ n. n < length was) (sym at) early) in
    let still : (id : Option ℕ) → Followed bodies bodies bodies id = λ id. record { all_ids = refl; either = λ t made. inl refl; own = λ t made is. refl } in
    Catching-go width was tiles others old bodies bodies bodies bodies places i k d tile (occupant_id here.ant) here below early long catching at is_tile (get_or_default tiles k tile here in_tiles) refl (still (occupant_id here.ant)) (still (occupant_id tile.ant))
