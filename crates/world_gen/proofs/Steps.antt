-- One element more is placed in a draft.
use Rattle.hex_geometry.specs.RowOrder.{index_of}
use Rattle.cell_world.specs.Opening.{IsFed, kind_at}
use Rattle.cell_world.specs.declared.kind.Kind.{Kind}
use Rattle.cell_world.specs.declared.kind.Kind.TheVariants as kind
use Rattle.hex_geometry.proofs.Beside.{adjacent_pos_table, neighbours_of_contains, neighbours_of_only}
use Rattle.hex_geometry.proofs.Places.{inner_inside, pos_same}
use Rattle.hex_geometry.specs.Neighbourhood.{adjacent_pos, neighbours_of}
use Rattle.hex_geometry.specs.Position.{IsInner, IsInside, Point, point_of}
use Rattle.hex_geometry.specs.declared.position.Pos.{Pos}
use Rattle.std.proofs.Common.{◌≡◌, ℕ, List, [], ◌∷◌, ◌++◌, get_or, true, false, refl, sym, ◌∙◌, ap, subst, inl, inr}
use Rattle.std.proofs.lemmas.Bool.{false_from_ne_true, false≢true}
use Rattle.std.proofs.lemmas.List.Elements.{Contains-append_left, Contains-push, Contains-push_cases}
use Rattle.std.specs.Prelude.{Bool, Contains, pos}
use Rattle.world_gen.proofs.Bares.{open_free, open_from, open_inside}
use Rattle.world_gen.specs.Elements.{IsCell}
use Rattle.world_gen.specs.FreeSpots.{IsFreeSpot, IsOffRim, IsTouching}
use Rattle.world_gen.specs.Inner.Open.{AllOpen, ListsCells, is_unblocked}
use Rattle.world_gen.specs.Inner.Sets.{IsRound, IsRoundAny}
use Rattle.world_gen.specs.Inner.Drafts.{IsStamped, IsTouched, IsDraft}
use Rattle.world_gen.specs.Generated.{IsPainted, paint_of}
use Rattle.world_gen.specs.declared.spot.Spot.{Spot}

-- positions with one place are one
pub point_one : (p q : Pos) → point_of p ≡ point_of q → p ≡ q
point_one p q e =
    let columns : pos p.x ≡ pos q.x = ap (λ (r : Point). r.x) e in
    let rows : pos p.y ≡ pos q.y = ap (λ (r : Point). r.y) e in
    pos_same (cc) (cc)

-- to touch is to be itself or a neighbour
pub touching_round : (width height : ℕ) (c p : Pos) → IsInner width height c → IsTouching (point_of c) (point_of p) → IsRound c p
touching_round width height c p inner touching =
    elim touching [
      | inl e ↦ inl (point_one c p e)
      | inr way ↦
          let same : adjacent_pos c way.0 ≡ p = point_one (adjacent_pos c way.0) p (adjacent_pos_table c way.0 inner.from_left inner.from_top ∙ way.1) in
          inr (subst (Contains (neighbours_of c)) same (neighbours_of_contains c way.0))
    ]

pub round_touching : (width height : ℕ) (c p : Pos) → IsInner width height c → IsRound c p → IsTouching (point_of c) (point_of p)
round_touching width height c p inner round =
    elim round [
      | inl e ↦ inl (ap point_of e)
      | inr near ↦
          let way = neighbours_of_only c p near in
          inr (way.0, sym (adjacent_pos_table c way.0 inner.from_left inner.from_top) ∙ ap point_of way.1)
    ]

-- a spot fits exactly if all its cells are open
pub open_fits : (width height : ℕ) (placed : List Spot) (blocked : List Bool) (kinds : List Kind) (spot : Spot) → IsDraft width height placed blocked kinds → AllOpen width height blocked spot → IsFreeSpot width height placed spot
open_fits width height placed blocked kinds spot draft all = record {
  off_rim = λ q cell. let place = all q cell in (place.0, place.1, draft.fenced.rim place.0 place.2);
  apart = λ other q r among cell of touching.
      let place = all q cell in
      draft.shut place.0 other (open_inside width height blocked place.0 place.2) among (record { cell = r; of = of; touching = subst (IsTouching r) (sym place.1) touching }) place.2;
}

pub fits_open : (width height : ℕ) (placed : List Spot) (blocked : List Bool) (kinds : List Kind) (spot : Spot) → IsDraft width height placed blocked kinds → IsFreeSpot width height placed spot → AllOpen width height blocked spot
fits_open width height placed blocked kinds spot draft fits q cell =
    let place = fits.off_rim q cell in
    (place.0, place.1, draft.free place.0 place.2 (λ other among touched. fits.apart other q touched.cell among cell touched.of (subst (IsTouching touched.cell) place.1 touched.touching)))

module _ (width height : ℕ) (placed : List Spot) (blocked now : List Bool) (kinds paint : List Kind) (spot : Spot) (cells : List Pos)
    (draft : IsDraft width height placed blocked kinds) (fits : IsFreeSpot width height placed spot) (lists : ListsCells spot cells) (stamped : IsStamped width height cells (paint_of spot.figure) blocked now kinds paint) where
  cell_inner : (p : Pos) → Contains cells p → IsInner width height p
  cell_inner p among =
      let place = fits.off_rim (point_of p) (lists.each p among) in
      subst (IsInner width height) (point_one place.0 p place.1) place.2

  -- a cell of the spot is among the cells
  cell_among : (p : Pos) → IsCell spot (point_of p) → Contains cells p
  cell_among p cell =
      let place = lists.every (point_of p) cell in
      subst (Contains cells) (point_one place.0 p place.1) place.2

  -- what is open now was open before
  was_open : (p : Pos) → is_unblocked width height now p ≡ true → is_unblocked width height blocked p ≡ true
  was_open p free =
      let inside = open_inside width height now p free in
      let clear : get_or now (index_of width p) true ≡ false = open_free width height now p free in
      open_from width height blocked p inside
      (false_from_ne_true (get_or blocked (index_of width p) true) (λ shut. false≢true (sym clear ∙ stamped.blocks.stay p true inside shut)))

  -- what touches the spot is blocked now
  spot_shut : (p : Pos) → IsInside width height p → IsTouched spot p → is_unblocked width height now p ≡ true → ⊥
  spot_shut p inside touched free =
      let place = lists.every touched.cell touched.of in
      let touching : IsTouching (point_of place.0) (point_of p) = subst (λ q. IsTouching q (point_of p)) (sym place.1) touched.touching in
      let round : IsRound place.0 p = touching_round width height place.0 p (cell_inner place.0 place.2) touching in
      false≢true (sym (open_free width height now p free) ∙ stamped.blocks.on p true inside (place.0, place.2, round))

  -- and what doesn't is as before
  not_round : (p : Pos) → (IsTouched spot p → ⊥) → IsRoundAny cells p → ⊥
  not_round p none near =
      none (record { cell = point_of near.0; of = lists.each near.0 near.1; touching = round_touching width height near.0 p (cell_inner near.0 near.1) near.2 })

  now_shut : (p : Pos) (other : Spot) → IsInside width height p → Contains (placed ++ spot ∷ []) other → IsTouched other p → is_unblocked width height now p ≡ true → ⊥
  now_shut p other inside among touched free =
      elim (Contains-push_cases placed spot other among) [
        | inl old ↦ draft.shut p other inside old touched (was_open p free)
        | inr same ↦ spot_shut p inside (subst (λ s. IsTouched s p) (sym same) touched) free
      ]

  now_free : (p : Pos) → IsInner width height p → ((other : Spot) → Contains (placed ++ spot ∷ []) other → IsTouched other p → ⊥) → is_unblocked width height now p ≡ true
  now_free p inner none =
      let inside = inner_inside inner in
      let before : is_unblocked width height blocked p ≡ true = draft.free p inner (λ other among. none other (Contains-append_left placed (spot ∷ []) other among)) in
      let same : get_or now (index_of width p) true ≡ get_or blocked (index_of width p) true = stamped.blocks.off p true inside (not_round p (none spot (Contains-push placed spot))) in
      open_from width height now p inside (same ∙ open_free width height blocked p before)

  now_off_rim : (other : Spot) (q : Point) → Contains (placed ++ spot ∷ []) other → IsCell other q → IsOffRim width height q
  now_off_rim other q among cell =
      elim (Contains-push_cases placed spot other among) [
        | inl old ↦ draft.off_rim other q old cell
        | inr same ↦ fits.off_rim q (subst (λ s. IsCell s q) (sym same) cell)
      ]

  -- a cell of another element isn't one of the spot
  not_among : (p : Pos) (other : Spot) → Contains placed other → IsCell other (point_of p) → Contains cells p → ⊥
  not_among p other old cell among = fits.apart other (point_of p) (point_of p) old (lists.each p among) cell (inl refl)

  now_cell : (p : Pos) (other : Spot) → Contains (placed ++ spot ∷ []) other → IsCell other (point_of p) → kind_at width paint p ≡ paint_of other.figure
  now_cell p other among cell =
      let place = now_off_rim other (point_of p) among cell in
      let inner : IsInner width height p = subst (IsInner width height) (point_one place.0 p place.1) place.2 in
      elim (Contains-push_cases placed spot other among) [
        | inl old ↦ stamped.paints.off p kind.Rock (inner_inside inner) (not_among p other old cell) ∙ draft.painted.cell p other old cell
        | inr same ↦ stamped.paints.on p kind.Rock (inner_inside inner) (cell_among p (subst (λ s. IsCell s (point_of p)) (sym same) cell)) ∙ ap (λ (s : Spot). paint_of s.figure) same
      ]

  now_painted : IsPainted width height (placed ++ spot ∷ []) paint
  now_painted = record {
    full = stamped.paints.same_length ∙ draft.painted.full;
    rim = λ p inside outer. stamped.paints.off p kind.Rock inside (λ among. outer (cell_inner p among)) ∙ draft.painted.rim p inside outer;
    cell = now_cell;
    floor = λ p inner none.
        stamped.paints.off p kind.Rock (inner_inside inner) (λ among. none spot (Contains-push placed spot) (lists.each p among))
        ∙ draft.painted.floor p inner (λ other among. none other (Contains-append_left placed (spot ∷ []) other among));
  }

  pub draft_more : IsFed (paint_of spot.figure) → IsDraft width height (placed ++ spot ∷ []) now paint
  draft_more fed = record {
    fenced = record {
      full = stamped.blocks.same_length ∙ draft.fenced.full;
      narrow = draft.fenced.narrow;
      low = draft.fenced.low;
      rim = λ p free. draft.fenced.rim p (was_open p free);
    };
    shut = now_shut;
    off_rim = now_off_rim;
    free = now_free;
    painted = now_painted;
    fed = stamped.fed fed draft.fed;
  }
