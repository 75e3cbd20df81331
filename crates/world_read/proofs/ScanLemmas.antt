-- The search for an open cell of the rim.
use Rattle.std.proofs.Common.{◌≡◌, ℕ, suc, zero, ◌+◌, ◌*◌, ◌<◌, ◌≤◌, Bool, true, false, not, cond, List, ◌∷◌, length, get_or, Option, Some, None, refl, sym, ◌∙◌, ap, subst, arith, inl, inr, is_some}
use Rattle.std.proofs.lemmas.Bool.{and_cases, and_left, and_right, both_ways, cases_Bool, cases_eq, not-false, not_from_true}
use Rattle.std.proofs.lemmas.List.{get_or_default}
use Rattle.std.proofs.lemmas.List.Recursion.{is_count_by}
use Rattle.std.specs.List.{count_by}
use Rattle.hex_geometry.specs.declared.position.Pos.{Pos}
use Rattle.hex_geometry.specs.Position.{IsInner, IsInside, is_on_rim}
use Rattle.cell_world.specs.declared.kind.Kind.{Kind}
use Rattle.cell_world.specs.declared.kind.Kind.TheVariants.{Rock}
use Rattle.cell_world.specs.Cell.{one_if}
use Rattle.cell_world.specs.Opening.{hill_count, is_hill, is_rock, kind_at}
use Rattle.hex_geometry.proofs.RowLemmas.{index_of-early, index_of-inside, pos_at-index_of, pos_at-inside}
use Rattle.hex_geometry.proofs.Rim.{inner-off_rim, off_rim-inner}
use Rattle.hex_geometry.specs.RowOrder.{index_of, pos_at}
use Rattle.cell_world.specs.World.{first_of}
use Rattle.cell_world.proofs.Places.{or_here}
use Rattle.world_read.specs.Inner.Reading.{is_open, is_open_at, open_rim}
use Rattle.world_read.specs.Inner.Scan.{IsClosedBefore}

-- what was found stays found
pub first_of-later : (width : ℕ) (test : Pos → Bool) (i n : ℕ) (p : Pos) → first_of width test i ≡ Some p → i ≤ n → first_of width test n ≡ Some p
first_of-later width test i zero p found le = let e : i ≡ 0 = omega arith in subst (λ k. first_of width test k ≡ Some p) e found
first_of-later width test i (suc n) p found le =
    elim (cases_eq i (suc n)) [
      | inl last ↦ subst (λ k. first_of width test k ≡ Some p) last found
      | inr earlier ↦ ap (λ o. or_here o (test (pos_at width n)) (pos_at width n)) (first_of-later width test i n p found (omega arith))
    ]

-- the kind that is read at a position's number is the kind there
pub is_open-read : (width height : ℕ) (kinds : List Kind) (x y k : ℕ) (d : Kind) → k ≡ y * width + x → length kinds ≡ width * height → x < width → y < height → is_open width height (get_or kinds k d) (record { x = x; y = y }) ≡ is_open_at width height kinds (record { x = x; y = y })
is_open-read width height kinds x y k d at full column row =
    let p : Pos = record { x = x; y = y } in
    let early : index_of width p < length kinds = index_of-early kinds width height p full (record { column = column; row = row }) in
    ap (λ n. is_open width height (get_or kinds n d) p) at ∙ ap (λ kind. is_open width height kind p) (get_or_default kinds (index_of width p) d Rock early)

-- the step of the search at a position whose number comes next
pub search_step : (width height : ℕ) (kinds : List Kind) (x y : ℕ) (b : Bool) → x < width → IsClosedBefore width height kinds (y * width + x) → is_open_at width height kinds (record { x = x; y = y }) ≡ b → first_of width (is_open_at width height kinds) (suc (y * width + x)) ≡ cond b (Some (record { x = x; y = y })) None
search_step width height kinds x y b column closed is =
    let n = y * width + x in
    let test = is_open_at width height kinds in
    let p : Pos = record { x = x; y = y } in
    ap (λ o. or_here o (test (pos_at width n)) (pos_at width n)) closed
    ∙ ap (λ q. or_here None (test q) q) (pos_at-index_of width p column)
    ∙ ap (λ here. or_here None here p) is

-- one more cell that isn't open
pub closed_more : (width height : ℕ) (kinds : List Kind) (x y : ℕ) → x < width → IsClosedBefore width height kinds (y * width + x) → is_open_at width height kinds (record { x = x; y = y }) ≡ false → IsClosedBefore width height kinds (y * width + (x + 1))
closed_more width height kinds x y column closed is =
    let next : suc (y * width + x) ≡ y * width + (x + 1) = omega arith in
    subst (IsClosedBefore width height kinds) next (search_step width height kinds x y false column closed is)

-- the first open cell of a row
pub found_here : (width height : ℕ) (kinds : List Kind) (x y : ℕ) → x < width → IsClosedBefore width height kinds (y * width + x) → is_open_at width height kinds (record { x = x; y = y }) ≡ true → first_of width (is_open_at width height kinds) (y * width + width) ≡ Some (record { x = x; y = y })
found_here width height kinds x y column closed is =
    first_of-later width (is_open_at width height kinds) (suc (y * width + x)) (y * width + width) (record { x = x; y = y }) (search_step width height kinds x y true column closed is) (omega arith)

rows_within : (width height y : ℕ) → y < height → y * width + width ≤ width * height
rows_within width height y row = grind arith

-- what the search of a row found is what the search of all rows finds
pub found_in_row : (width height : ℕ) (kinds : List Kind) (y : ℕ) (found : Option Pos) → y < height → first_of width (is_open_at width height kinds) (y * width + width) ≡ found → is_some found ≡ true → found ≡ first_of width (is_open_at width height kinds) (width * height)
found_in_row width height kinds y None row is some = absurd (cc)
found_in_row width height kinds y (Some p) row is some = sym (first_of-later width (is_open_at width height kinds) (y * width + width) (width * height) p is (rows_within width height y row))

hill_step : (kind : Kind) (kinds : List Kind) → hill_count (kind ∷ kinds) ≡ cond (is_hill kind) (1 + hill_count kinds) (hill_count kinds)
hill_step kind kinds = elim (is_hill kind) as (λ b. one_if b + hill_count kinds ≡ cond b (1 + hill_count kinds) (hill_count kinds)) [ true ↦ refl | false ↦ omega arith ]

-- the hill cells are those that are counted
pub hill_count-count : (kinds : List Kind) → count_by is_hill kinds ≡ hill_count kinds
hill_count-count kinds = sym (is_count_by hill_count is_hill refl hill_step kinds)

-- a search that found nothing
pub first_of-none : (width : ℕ) (test : Pos → Bool) (n i : ℕ) → first_of width test n ≡ None → i < n → test (pos_at width i) ≡ false
first_of-none width test zero i none lt = absurd (omega arith)
first_of-none width test (suc n) i none lt = go (first_of width test n) refl (test (pos_at width n)) refl (λ closed early. first_of-none width test n i closed early) none where
  go : (found : Option Pos) → first_of width test n ≡ found → (here : Bool) → test (pos_at width n) ≡ here → (first_of width test n ≡ None → i < n → test (pos_at width i) ≡ false) → or_here found here (pos_at width n) ≡ None → test (pos_at width i) ≡ false
  go (Some p) f here h before none = absurd (cc)
  go None f true h before none = absurd (cc)
  go None f false h before none =
      elim (cases_eq i n) [
        | inl last ↦ ap (λ k. test (pos_at width k)) last ∙ h
        | inr earlier ↦ before f (omega arith)
      ]

-- a search that finds nothing
pub first_of-closed : (width : ℕ) (test : Pos → Bool) (n : ℕ) → ((i : ℕ) → i < n → test (pos_at width i) ≡ false) → first_of width test n ≡ None
first_of-closed width test zero none = refl
first_of-closed width test (suc n) none =
    ap (λ o. or_here o (test (pos_at width n)) (pos_at width n)) (first_of-closed width test n (λ i lt. none i (omega arith)))
    ∙ ap (λ b. or_here None b (pos_at width n)) (none n (omega arith))

-- a cell that is neither open nor rock isn't on the rim
pub IsInner-closed : (width height : ℕ) (kind : Kind) (p : Pos) → is_open width height kind p ≡ false → is_rock kind ≡ false → IsInside width height p → IsInner width height p
IsInner-closed width height kind p closed clear inside =
    elim (and_cases (is_on_rim width height p) (not (is_rock kind)) closed) [
      | inl off ↦ off_rim-inner width height p inside off
      | inr rock ↦ absurd (both_ways (is_rock kind) clear (not-false (is_rock kind) rock))
    ]

-- a cell that isn't on the rim isn't open
is_open-inner : (width height : ℕ) (kind : Kind) (p : Pos) → IsInner width height p → is_open width height kind p ≡ false
is_open-inner width height kind p inner = and_left (is_on_rim width height p) (not (is_rock kind)) (inner-off_rim width height p inner)

-- a position that is closed has no open cell
pub is_open-closed : (width height : ℕ) (kinds : List Kind) (p : Pos) → (is_rock (kind_at width kinds p) ≡ false → IsInner width height p) → is_open_at width height kinds p ≡ false
is_open-closed width height kinds p closed =
    elim (cases_Bool (is_rock (kind_at width kinds p))) [
      | inl rock ↦ and_right (is_on_rim width height p) (not (is_rock (kind_at width kinds p))) (not_from_true (is_rock (kind_at width kinds p)) rock)
      | inr clear ↦ is_open-inner width height (kind_at width kinds p) p (closed clear)
    ]

-- if no cell of the rim is open, what isn't rock isn't on the rim
pub rim-closed : (width height : ℕ) (kinds : List Kind) → open_rim width height kinds ≡ None → (p : Pos) → IsInside width height p → is_rock (kind_at width kinds p) ≡ false → IsInner width height p
unfolding open_rim
rim-closed width height kinds none p inside clear =
    let test = is_open_at width height kinds in
    let here = first_of-none width test (width * height) (index_of width p) none (index_of-inside width height p inside) in
    let closed : is_open_at width height kinds p ≡ false = ap test (sym (pos_at-index_of width p inside.column)) ∙ here in
    IsInner-closed width height (kind_at width kinds p) p closed clear inside

-- if what isn't rock isn't on the rim, no cell of the rim is open
pub open_rim-closed : (width height : ℕ) (kinds : List Kind) → ((p : Pos) → IsInside width height p → is_rock (kind_at width kinds p) ≡ false → IsInner width height p) → open_rim width height kinds ≡ None
unfolding open_rim
open_rim-closed width height kinds rim =
    first_of-closed width (is_open_at width height kinds) (width * height)
    (λ i lt. let p = pos_at width i in is_open-closed width height kinds p (rim p (pos_at-inside width height i lt)))

-- what a search found: it passes the test, and nothing before it does
pub record IsFirst (width : ℕ) (test : Pos → Bool) (n : ℕ) (p : Pos) : Type 0 where
  pub number : ℕ
  pub early : number < n
  pub at : pos_at width number ≡ p
  pub passes : test p ≡ true
  pub closed : first_of width test number ≡ None

-- what a search found is the first
pub first_of-known : (width : ℕ) (test : Pos → Bool) (n : ℕ) (p : Pos) → first_of width test n ≡ Some p → IsFirst width test n p
first_of-known width test zero p found = absurd (cc)
first_of-known width test (suc n) p found = go (first_of width test n) refl (test (pos_at width n)) refl (λ before. first_of-known width test n p before) found where
  go : (so_far : Option Pos) → first_of width test n ≡ so_far → (here : Bool) → test (pos_at width n) ≡ here → (first_of width test n ≡ Some p → IsFirst width test n p) → or_here so_far here (pos_at width n) ≡ Some p → IsFirst width test (suc n) p
  go (Some q) f here h before found =
      let first = before (f ∙ found) in
      record { number = first.number; early = omega (arith, first.early); at = first.at; passes = first.passes; closed = first.closed }
  go None f false h before found = absurd (cc)
  go None f true h before found =
      let one : pos_at width n ≡ p = cc in
      record { number = n; early = omega arith; at = one; passes = ap test (sym one) ∙ h; closed = f }

-- an open cell of the rim that was found
pub open_rim-known : (width height : ℕ) (kinds : List Kind) (p : Pos) → open_rim width height kinds ≡ Some p → IsFirst width (is_open_at width height kinds) (width * height) p
unfolding open_rim
open_rim-known width height kinds p found = first_of-known width (is_open_at width height kinds) (width * height) p found

-- the first open cell of the rim is found
pub open_rim-first : (width height : ℕ) (kinds : List Kind) (p : Pos) → IsInside width height p → IsClosedBefore width height kinds (index_of width p) → is_open_at width height kinds p ≡ true → open_rim width height kinds ≡ Some p
unfolding open_rim
open_rim-first width height kinds p inside closed is =
    let test = is_open_at width height kinds in
    let n = index_of width p in
    first_of-later width test (suc n) (width * height) p (search_step width height kinds p.x p.y true inside.column closed is)
    (index_of-inside width height p inside)
