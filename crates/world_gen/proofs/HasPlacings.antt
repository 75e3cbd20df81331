-- Each element goes somewhere, or has no room: whether it fits at a spot can be told, since its cells and those of the
-- elements before it are finitely many, and the first try or place at which it does is found by going over them.
use native.Mathlib.Decide.{dec_le, dec_lt, map_dec}
use mathlib.Core.Logic.Dec
use Rattle.cell_world.proofs.Puts.{cases_pos}
use Rattle.hex_geometry.proofs.BallRows.{rows_list}
use Rattle.hex_geometry.specs.Direction.{turned_by}
use Rattle.hex_geometry.specs.Inner.BallRows.{rows}
use Rattle.hex_geometry.specs.Distance.{HasBall}
use Rattle.hex_geometry.specs.Neighbourhood.{neighbours_of}
use Rattle.hex_geometry.specs.Position.{HasNeighbours, IsInner, IsInside, Point, point_of}
use Rattle.hex_geometry.specs.RowOrder.{IsBefore}
use Rattle.hex_geometry.specs.declared.direction.Dir.{Dir}
use Rattle.hex_geometry.specs.declared.direction.Side.TheVariants.{Right}
use Rattle.hex_geometry.specs.declared.position.Pos.{Pos}
use Rattle.list_lemmas.proofs.Elements.{Contains-cases}
use Rattle.std.proofs.Common.{◌≡◌, ◌⊎◌, inl, inr, ℕ, zero, suc, ◌+◌, ◌*◌, ◌<◌, ◌≤◌, List, [], ◌∷◌, refl, sym, ap, subst, arith}
use Rattle.std.proofs.lemmas.Bool.{cases_lt}
use Rattle.std.proofs.lemmas.List.Elements.{All-cons, All-contains, All-contains_itself, All-head, All-nil, All-tail, All-weaker, Contains-append_right}
use Rattle.std.specs.Prelude.{All, Contains, ℤ, pos, negsuc}
use Rattle.world_gen.proofs.Balls.{ball_has}
use Rattle.world_gen.proofs.Lines.{HasRound, lines_each, lines_every}
use Rattle.world_gen.proofs.Steps.{point_one, round_touching, touching_round}
use Rattle.world_gen.specs.Elements.{IsCell, IsInBlob, point_after}
use Rattle.world_gen.specs.FreeSpots.{IsFreeSpot, IsOffRim, IsTouching}
use Rattle.world_gen.specs.Inner.Open.{ListsCells, lines_from}
use Rattle.world_gen.specs.Inner.Sets.{IsRound}
use Rattle.world_gen.specs.Placing.{IsBarred, IsChosenSpot, IsFound, draws_of, spot_at, try_of}
use Rattle.world_gen.specs.declared.spot.Figure.{Figure}
use Rattle.world_gen.specs.declared.spot.Figure.TheVariants.{Hill, Rock, Blob}
use Rattle.world_gen.specs.declared.spot.Spot.{Spot}

-- it can be told whether a fact holds of each element of a list
dec_all : {X : Type 0} (P Q : X → Type 0) → ((x : X) → Q x → Dec (P x)) → (xs : List X) → All Q xs → Dec (All P xs)
dec_all P Q dec [] all = yes (All-nil P)
dec_all P Q dec (x ∷ xs) all =
    elim (dec x (All-head Q x xs all)) [
      | yes here ↦ elim (dec_all P Q dec xs (All-tail Q x xs all)) [
        | yes rest ↦ yes (All-cons P x xs here rest)
        | no never ↦ no (λ every. never (All-tail P x xs every))
      ]
      | no never ↦ no (λ every. never (All-head P x xs every))
    ]

-- of each number below another
dec_below : (P : ℕ → Type 0) → ((k : ℕ) → Dec (P k)) → (n : ℕ) → Dec ((k : ℕ) → k < n → P k)
dec_below P dec zero = yes (λ k below. absurd (omega arith))
dec_below P dec (suc n) =
    elim (dec_below P dec n) [
      | yes all ↦ elim (dec n) [
        | yes last ↦ yes (λ k below. elim (cases_lt k n) [ inl less ↦ all k less | inr le ↦ (let same : n ≡ k = omega arith in subst P same last) ])
        | no never ↦ no (λ every. never (every n (omega arith)))
      ]
      | no never ↦ no (λ every. never (λ k below. every k (omega arith)))
    ]

-- the first number below another at which a fact holds
record First (P : ℕ → Type 0) (n : ℕ) : Type 0 where
  at : ℕ
  below : at < n
  holds : P at
  before : (k : ℕ) → k < at → P k → ⊥

first_below : (P : ℕ → Type 0) → ((k : ℕ) → Dec (P k)) → (n : ℕ) → First P n ⊎ ((k : ℕ) → k < n → P k → ⊥)
first_below P dec zero = inr (λ k below holds. omega arith)
first_below P dec (suc n) =
    elim (first_below P dec n) [
      | inl first ↦ (let within = first.below in inl (record { at = first.at; below = omega arith; holds = first.holds; before = first.before }))
      | inr none ↦ elim (dec n) [
        | yes last ↦ inl (record { at = n; below = omega arith; holds = last; before = none })
        | no never ↦ inr (λ k below holds. elim (cases_lt k n) [ inl less ↦ none k less holds | inr le ↦ (let same : k ≡ n = omega arith in never (subst P same holds)) ])
      ]
    ]

-- the first position of a grid, in row order, at which a fact holds
record FirstPlace (P : Pos → Type 0) (width height : ℕ) : Type 0 where
  place : Pos
  inside : IsInside width height place
  holds : P place
  before : (p : Pos) → IsInside width height p → IsBefore p place → P p → ⊥

module _ (P : Pos → Type 0) (dec : (p : Pos) → Dec (P p)) (width height : ℕ) where
  abbrev HoldsIn : ℕ → ℕ → Type 0
  HoldsIn y x = P (record { x = x; y = y })

  row : (y : ℕ) → First (HoldsIn y) width ⊎ ((x : ℕ) → x < width → HoldsIn y x → ⊥)
  row y = first_below (HoldsIn y) (λ x. dec (record { x = x; y = y })) width

  dec_row : (y : ℕ) → Dec (First (HoldsIn y) width)
  dec_row y = elim (row y) [ inl first ↦ yes first | inr none ↦ no (λ first. none first.at first.below first.holds) ]

  none_in : (y : ℕ) → (First (HoldsIn y) width → ⊥) → (x : ℕ) → x < width → HoldsIn y x → ⊥
  none_in y never x below holds = elim (row y) [ inl first ↦ never first | inr none ↦ none x below holds ]

  none_before : (first : First (λ y. First (HoldsIn y) width) height) (p : Pos) → IsInside width height p → IsBefore p (record { x = first.holds.at; y = first.at }) → P p → ⊥
  none_before first p inside before holds =
      elim (cases_lt p.y first.at) [
        | inl above ↦ none_in p.y (first.before p.y above) p.x inside.column holds
        | inr le ↦
            let rows = before.row in
            let same : p.y ≡ first.at = omega arith in
            first.holds.before p.x (before.column same) (subst (λ (y : ℕ). HoldsIn y p.x) same holds)
      ]

  first_place : FirstPlace P width height ⊎ ((p : Pos) → IsInside width height p → P p → ⊥)
  first_place =
      elim (first_below (λ y. First (HoldsIn y) width) dec_row height) [
        | inl first ↦ inl (record {
          place = record { x = first.holds.at; y = first.at };
          inside = record { column = first.holds.below; row = first.below };
          holds = first.holds.holds;
          before = none_before first;
        })
        | inr none ↦ inr (λ p inside holds. none_in p.y (none p.y inside.row) p.x inside.column holds)
      ]

-- positions off the rim, and those that have neighbours
pub dec_inner : (width height : ℕ) (p : Pos) → Dec (IsInner width height p)
dec_inner width height p =
    map_dec (λ both. record { from_left = both.0; to_right = both.1.0; from_top = both.1.1.0; to_bottom = both.1.1.1 }) (λ is. (is.from_left, (is.to_right, (is.from_top, is.to_bottom))))
    (Dec.and (dec_le 1 p.x) (Dec.and (dec_lt (p.x + 1) width) (Dec.and (dec_le 1 p.y) (dec_lt (p.y + 1) height))))

dec_neighbours : (p : Pos) → Dec (HasNeighbours p)
dec_neighbours p =
    map_dec (λ both. record { from_left = both.0; to_right = both.1.0; from_top = both.1.1.0; to_bottom = both.1.1.1 }) (λ is. (is.from_left, (is.to_right, (is.from_top, is.to_bottom))))
    (Dec.and (dec_le 1 p.x) (Dec.and (dec_le p.x 65534) (Dec.and (dec_le 1 p.y) (dec_le p.y 65534))))

pub dec_ball : (centre : Pos) (radius : ℕ) → Dec (HasBall centre radius)
dec_ball centre radius =
    map_dec (λ both. record { from_left = both.0; to_right = both.1.0; from_top = both.1.1.0; to_bottom = both.1.1.1 }) (λ is. (is.from_left, (is.to_right, (is.from_top, is.to_bottom))))
    (Dec.and (dec_le radius centre.x) (Dec.and (dec_le (centre.x + radius) 65535) (Dec.and (dec_le radius centre.y) (dec_le (centre.y + radius) 65535))))

dec_at : (x y : ℤ) → Dec (HasRound (record { x = x; y = y }))
dec_at (pos a) (pos b) =
    elim (dec_neighbours (record { x = a; y = b })) [
      | yes has ↦ yes (record { x = a; y = b }, refl, has)
      | no never ↦ no (λ placed. never (subst HasNeighbours (point_one placed.0 (record { x = a; y = b }) placed.1) placed.2))
    ]
dec_at (pos a) (negsuc b) = no (λ placed. (let same : pos placed.0.y ≡ negsuc b = ap (λ (r : Point). r.y) placed.1 in cc))
dec_at (negsuc a) y = no (λ placed. (let same : pos placed.0.x ≡ negsuc a = ap (λ (r : Point). r.x) placed.1 in cc))

dec_placed : (q : Point) → Dec (HasRound q)
dec_placed q = dec_at q.x q.y

-- a blob all of whose cells are such places
blob_at : Pos → Dir → ℕ → ℕ → Point
blob_at corner first along beside = point_after beside (turned_by first Right) (point_after along first (point_of corner))

dec_blob : (corner : Pos) (first : Dir) → Dec ((q : Point) → IsInBlob (point_of corner) first q → HasRound q)
unfolding blob_at
dec_blob corner first =
    map_dec
    (λ every q cell. (let long = cell.is_long in let wide = cell.is_wide in subst HasRound cell.is (every cell.along (omega arith) cell.beside (omega arith))))
    (λ all along long beside wide. all (blob_at corner first along beside) (record { along = along; beside = beside; is_long = omega arith; is_wide = omega arith; is = refl }))
    (dec_below (λ along. (beside : ℕ) → beside < 5 → HasRound (blob_at corner first along beside))
    (λ along. dec_below (λ beside. HasRound (blob_at corner first along beside)) (λ beside. dec_placed (blob_at corner first along beside)) 5) 5)

-- the cells of an element, listed
abbrev Listing : Spot → Type 0
Listing spot = (cells : List Pos) × ListsCells spot cells

abbrev pub AllPlaced : Spot → Type 0
AllPlaced spot = (q : Point) → IsCell spot q → HasRound q

listing_at : (figure : Figure) (place : Pos) → Listing (record { figure = figure; place = place }) ⊎ (AllPlaced (record { figure = figure; place = place }) → ⊥)
listing_at (Hill colour) place =
    elim (dec_ball place 6) [
      | yes has ↦ (let list = rows_list place 6 has in inl (rows place 6 (2 * 6 + 1), record { each = list.within; every = list.every }))
      | no never ↦ inr (λ all. never (ball_has place 6 all))
    ]
listing_at (Rock radius) place =
    elim (dec_ball place radius) [
      | yes has ↦ (let list = rows_list place radius has in inl (rows place radius (2 * radius + 1), record { each = list.within; every = list.every }))
      | no never ↦ inr (λ all. never (ball_has place radius all))
    ]
listing_at (Blob first) place =
    elim (dec_blob place first) [
      | yes all ↦ inl (lines_from 5 first place, record { each = lines_each place first all; every = lines_every place first all })
      | no never ↦ inr never
    ]

listing : (spot : Spot) → Listing spot ⊎ (AllPlaced spot → ⊥)
listing spot = listing_at spot.figure spot.place

-- an element whose cells are listed, and off the rim
pub record IsListed (width height : ℕ) (spot : Spot) : Type 0 where
  pub cells : List Pos
  pub lists : ListsCells spot cells
  pub inner : All (IsInner width height) cells

module _ (width height : ℕ) (narrow : width ≤ 512) (low : height ≤ 512) where
  -- no cell of another element touches a position
  abbrev IsApart : Spot → Pos → Type 0
  IsApart other p = (r : Point) → IsCell other r → IsTouching r (point_of p) → ⊥

  -- a cell at which an element may have one
  abbrev IsFreeCell : List Spot → Pos → Type 0
  IsFreeCell placed p = IsInner width height p × All (λ (other : Spot). IsApart other p) placed

  pub inner_placed : (spot : Spot) → ((q : Point) → IsCell spot q → IsOffRim width height q) → AllPlaced spot
  inner_placed spot off q cell =
      let at = off q cell in
      let right = at.2.to_right in
      let bottom = at.2.to_bottom in
      (at.0, at.1, record { from_left = at.2.from_left; to_right = omega arith; from_top = at.2.from_top; to_bottom = omega arith })

  cells_inner : (spot : Spot) (cells : List Pos) → ListsCells spot cells → ((q : Point) → IsCell spot q → IsOffRim width height q) → All (IsInner width height) cells
  cells_inner spot cells lists off =
      All-weaker (Contains cells) (IsInner width height)
      (λ p among. (let at = off (point_of p) (lists.each p among) in subst (IsInner width height) (point_one at.0 p at.1) at.2)) cells (All-contains_itself cells)

  -- an element that is off the rim has its cells listed
  pub listed_by : (spot : Spot) → ((q : Point) → IsCell spot q → IsOffRim width height q) → IsListed width height spot
  listed_by spot off =
      elim (listing spot) [
        | inl found ↦ record { cells = found.0; lists = found.1; inner = cells_inner spot found.0 found.1 off }
        | inr never ↦ absurd (never (inner_placed spot off))
      ]

  dec_among : (xs : List Pos) (p : Pos) → Dec (Contains xs p)
  dec_among [] p = no (λ among. (let within = among.1 in omega arith))
  dec_among (x ∷ xs) p =
      elim (cases_pos x p) [
        | inl same ↦ yes (0, omega arith, same)
        | inr apart ↦ elim (dec_among xs p) [
          | yes later ↦ yes (Contains-append_right (x ∷ []) xs p later)
          | no never ↦ no (λ among. elim (Contains-cases x p xs among) [ inl here ↦ apart here | inr later ↦ never later ])
        ]
      ]

  dec_round : (r p : Pos) → Dec (IsRound r p)
  dec_round r p =
      elim (cases_pos r p) [
        | inl same ↦ yes (inl same)
        | inr apart ↦ elim (dec_among (neighbours_of r) p) [
          | yes near ↦ yes (inr near)
          | no never ↦ no (λ round. elim round [ inl same ↦ apart same | inr near ↦ never near ])
        ]
      ]

  dec_touching : (r p : Pos) → IsInner width height r → Dec (IsTouching (point_of r) (point_of p))
  dec_touching r p inner = map_dec (λ round. round_touching width height r p inner round) (λ touching. touching_round width height r p inner touching) (dec_round r p)

  apart_of : (other : Spot) (p : Pos) (cells : List Pos) → ListsCells other cells → All (λ (r : Pos). IsTouching (point_of r) (point_of p) → ⊥) cells → IsApart other p
  apart_of other p cells lists all r of touching =
      let at = lists.every r of in
      All-contains (λ (c : Pos). IsTouching (point_of c) (point_of p) → ⊥) cells at.0 all at.2 (subst (λ (q : Point). IsTouching q (point_of p)) (sym at.1) touching)

  dec_apart : (other : Spot) (p : Pos) → IsListed width height other → Dec (IsApart other p)
  dec_apart other p listed =
      map_dec (apart_of other p listed.cells listed.lists)
      (λ apart. All-weaker (Contains listed.cells) (λ (r : Pos). IsTouching (point_of r) (point_of p) → ⊥) (λ r among. apart (point_of r) (listed.lists.each r among)) listed.cells (All-contains_itself listed.cells))
      (dec_all (λ (r : Pos). IsTouching (point_of r) (point_of p) → ⊥) (IsInner width height) (λ r inner. Dec.not (dec_touching r p inner)) listed.cells listed.inner)

  module _ (placed : List Spot) (listed : All (IsListed width height) placed) where
    dec_free : (p : Pos) → Dec (IsFreeCell placed p)
    dec_free p =
        Dec.and (dec_inner width height p) (dec_all (λ (other : Spot). IsApart other p) (IsListed width height) (λ other is. dec_apart other p is) placed listed)

    fits_by : (spot : Spot) (cells : List Pos) → ListsCells spot cells → All (IsFreeCell placed) cells → IsFreeSpot width height placed spot
    fits_by spot cells lists all = record {
      off_rim = λ q cell. (let at = lists.every q cell in (at.0, at.1, (All-contains (IsFreeCell placed) cells at.0 all at.2).0));
      apart = λ other q r among cell of touching.
          (let at = lists.every q cell in
          All-contains (λ (o : Spot). IsApart o at.0) placed other (All-contains (IsFreeCell placed) cells at.0 all at.2).1 among r of (subst (IsTouching r) (sym at.1) touching));
    }

    by_fits : (spot : Spot) (cells : List Pos) → ListsCells spot cells → IsFreeSpot width height placed spot → All (IsFreeCell placed) cells
    by_fits spot cells lists fits =
        All-weaker (Contains cells) (IsFreeCell placed)
        (λ p among. (
          All-contains (IsInner width height) cells p (cells_inner spot cells lists fits.off_rim) among,
          All-weaker (Contains placed) (λ (other : Spot). IsApart other p) (λ other before r of touching. fits.apart other (point_of p) r before (lists.each p among) of touching) placed (All-contains_itself placed),
        )) cells (All-contains_itself cells)

    pub dec_fits : (spot : Spot) → Dec (IsFreeSpot width height placed spot)
    dec_fits spot =
        elim (listing spot) [
          | inl found ↦ map_dec (fits_by spot found.0 found.1) (by_fits spot found.0 found.1)
              (dec_all (IsFreeCell placed) (λ (p : Pos). Unit {0}) (λ p any. dec_free p) found.0 (λ k d below. tt))
          | inr never ↦ no (λ fits. never (inner_placed spot fits.off_rim))
        ]

-- the place of an element, or that it has no room
pub record GoesTo (fits : Spot → Type 0) (seed width height : ℕ) (figure : Figure) (g : ℕ) : Type 0 where
  pub spot : Spot
  pub after : ℕ
  pub goes : IsChosenSpot fits seed width height figure g spot after ⊎ IsFound fits seed width height figure g spot after

pub goes_or_barred : (fits : Spot → Type 0) → ((spot : Spot) → Dec (fits spot)) → (seed width height : ℕ) (figure : Figure) (g : ℕ) → GoesTo fits seed width height figure g ⊎ IsBarred fits seed width height figure g
goes_or_barred fits dec seed width height figure g =
    elim (first_below (λ k. fits (try_of seed width height figure g k)) (λ k. dec (try_of seed width height figure g k)) 50) [
      | inl first ↦ inl (record {
        spot = try_of seed width height figure g first.at;
        after = g + (first.at + 1) * draws_of figure;
        goes = inl (record { try = first.at; below = first.below; is = refl; fitting = first.holds; first = first.before; drew = refl });
      })
      | inr none ↦ elim (first_place (λ p. fits (spot_at figure p)) (λ p. dec (spot_at figure p)) width height) [
        | inl found ↦ inl (record {
          spot = spot_at figure found.place;
          after = g + 50 * draws_of figure;
          goes = inr (record { no_try = none; place = found.place; inside = found.inside; is = refl; fitting = found.holds; first = found.before; drew = refl });
        })
        | inr never ↦ inr (record { no_try = none; no_place = never })
      ]
    ]
