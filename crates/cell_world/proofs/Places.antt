-- Where an ant stands: the search in row order, as look-ups.
use Rattle.std.proofs.Common.{◌≡◌, ◌≢◌, inl, inr, ℕ, ◌<◌, ◌≤◌, Bool, true, false, cond, Option, Some, None, refl, sym, subst, ◌∙◌, ap, arith, suc, zero}
use Rattle.std.proofs.Math.Path.{fun_ext}
use Rattle.std.specs.Option.{option_or}
use Rattle.std.proofs.lemmas.Bool.{cases_Bool, cases_eq, cond-true, cond-false, false_from_ne_true, both_ways, eqb-true, eq-eqb}
use Rattle.hex_geometry.specs.declared.position.Pos.{Pos}
use Rattle.hex_geometry.specs.Position.{IsInside, HasNeighbours}
use Rattle.hex_geometry.proofs.Places.{inner_inside, inner_has_neighbours}
use Rattle.cell_world.specs.declared.ant.Ant.{Ant}
use Rattle.cell_world.specs.declared.cell.Cell.{Cell}
use Rattle.cell_world.specs.Cell.{rock, holds_id, is_ant}
use Rattle.hex_geometry.proofs.RowLemmas.{index_of-inside, pos_at-index_of, pos_at-inside}
use Rattle.hex_geometry.specs.RowOrder.{index_of, pos_at}
use Rattle.cell_world.specs.World.{World, first_of, place_in, area, put, put_cell}
use Rattle.cell_world.specs.Valid.{Valid, CanSet}
use Rattle.cell_world.proofs.Puts.{put_cell-same, put_cell-other, cases_pos}

-- this position where there is none yet and the test holds
abbrev pub or_here : Option Pos → Bool → Pos → Option Pos
or_here found here p = option_or found (cond here (Some p) None)

-- a search that finds nothing anywhere
pub first_of-nowhere : (width : ℕ) (test : Pos → Bool) (n : ℕ) → ((p : Pos) → test p ≡ false) → first_of width test n ≡ None
first_of-nowhere width test zero none = refl
first_of-nowhere width test (suc n) none =
    ap (λ o. or_here o (test (pos_at width n)) (pos_at width n)) (first_of-nowhere width test n none)
    ∙ ap (λ b. or_here None b (pos_at width n)) (none (pos_at width n))

-- what a search finds passes the test, and is one of the first n
pub record Found (width : ℕ) (test : Pos → Bool) (n : ℕ) (p : Pos) : Type 0 where
  pub passes : test p ≡ true
  pub number : ℕ
  pub early : number < n
  pub at : pos_at width number ≡ p

-- one more position may be searched
Found-more : {width : ℕ} {test : Pos → Bool} {n : ℕ} {p : Pos} → Found width test n p → Found width test (suc n) p
Found-more found = record { passes = found.passes; number = found.number; early = omega arith; at = found.at }

-- the step of a search that finds p
Found-step : (width : ℕ) (test : Pos → Bool) (n : ℕ) (p : Pos) (so_far : Option Pos) → (so_far ≡ Some p → Found width test n p) → or_here so_far (test (pos_at width n)) (pos_at width n) ≡ Some p → Found width test (suc n) p
Found-step width test n p (Some q) earlier now = Found-more (earlier now)
Found-step width test n p None earlier now =
    elim (cases_Bool (test (pos_at width n))) [
      | inl here ↦
          let one : pos_at width n ≡ p = let e : Some (pos_at width n) ≡ Some p = sym (cond-true _ _ _ here) ∙ now in cc in
          record { passes = ap test (sym one) ∙ here; number = n; early = omega arith; at = one }
      | inr there ↦ let e : None ≡ Some p = sym (cond-false _ _ _ there) ∙ now in absurd (cc)
    ]

-- what a search finds
pub first_of-found : (width : ℕ) (test : Pos → Bool) (n : ℕ) (p : Pos) → first_of width test n ≡ Some p → Found width test n p
first_of-found width test zero p found = absurd (cc)
first_of-found width test (suc n) p found = Found-step width test n p (first_of width test n) (first_of-found width test n p) found

-- if only p passes, a search that came so far and found something found p
only_found : (width : ℕ) (test : Pos → Bool) (n : ℕ) (p : Pos) (so_far : Option Pos) → ((q : Pos) → test q ≡ true → q ≡ p) → first_of width test n ≡ so_far → test (pos_at width n) ≡ true → or_here so_far (test (pos_at width n)) (pos_at width n) ≡ Some p
only_found width test n p (Some q) only came here = ap Some (only q (first_of-found width test n q came).passes)
only_found width test n p None only came here = cond-true _ _ _ here ∙ ap Some (only _ here)

-- if only p passes, and p is among the first n, a search finds p
pub first_of-only : (width : ℕ) (test : Pos → Bool) (n i : ℕ) (p : Pos) → i < n → pos_at width i ≡ p → test p ≡ true → ((q : Pos) → test q ≡ true → q ≡ p) → first_of width test n ≡ Some p
first_of-only width test zero i p early at passes only = absurd (omega arith)
first_of-only width test (suc n) i p early at passes only =
    elim (cases_eq i n) [
      | inl last ↦ only_found width test n p (first_of width test n) only refl (ap (λ k. test (pos_at width k)) (sym last) ∙ ap test at ∙ passes)
      | inr earlier ↦ ap (λ o. or_here o (test (pos_at width n)) (pos_at width n)) (first_of-only width test n i p (omega arith) at passes only)
    ]

-- two tests that agree find the same
pub first_of-same : (width : ℕ) (test other : Pos → Bool) (n : ℕ) → ((p : Pos) → test p ≡ other p) → first_of width test n ≡ first_of width other n
first_of-same width test other n agree = ap (λ t. first_of width t n) (fun_ext agree)

-- what isn't rocky is inside
pub clear_inside : (w : World) (p : Pos) → Valid w → (w.cells p).rocky ≡ false → IsInside w.width w.height p
clear_inside w p valid clear = inner_inside (valid.rim p clear)

-- rock holds no ant
pub holds_id-rock : (t : ℕ) → holds_id t rock ≡ false
unfolding rock
holds_id-rock t = refl

-- a cell that holds an ant isn't rocky
pub holds_id-clear : (w : World) (t : ℕ) (p : Pos) → Valid w → holds_id t (w.cells p) ≡ true → (w.cells p).rocky ≡ false
holds_id-clear w t p valid holds = false_from_ne_true (w.cells p).rocky λ rocky. both_ways (holds_id t (w.cells p)) (ap (holds_id t) (valid.bare p rocky) ∙ holds_id-rock t) holds

-- a cell that holds an ant is inside
pub holds_id-inside : (w : World) (t : ℕ) (p : Pos) → Valid w → holds_id t (w.cells p) ≡ true → IsInside w.width w.height p
holds_id-inside w t p valid holds = clear_inside w p valid (holds_id-clear w t p valid holds)

-- a cell with an ant holds that ant's id
pub holds_id-own : (cell : Cell) (ant : Ant) → cell.ant ≡ Some ant → holds_id ant.id cell ≡ true
holds_id-own cell ant is = ap (is_ant ant.id) is ∙ eq-eqb ant.id ant.id refl

-- a cell with an ant isn't rocky
pub ant-clear : (w : World) (p : Pos) (ant : Ant) → Valid w → (w.cells p).ant ≡ Some ant → (w.cells p).rocky ≡ false
ant-clear w p ant valid is = holds_id-clear w ant.id p valid (holds_id-own (w.cells p) ant is)

-- the ant of a cell that holds an id
pub record Holder (t : ℕ) (o : Option Ant) : Type 0 where
  pub ant : Ant
  pub is : o ≡ Some ant
  pub id : ant.id ≡ t

-- an ant found by its id
pub is_ant-true : (t : ℕ) (o : Option Ant) → is_ant t o ≡ true → Holder t o
is_ant-true t None holds = absurd (cc)
is_ant-true t (Some ant) holds = record { ant = ant; is = refl; id = eqb-true ant.id t holds }

-- an ant that no cell holds has no place
pub place_in-nowhere : (w : World) (t : ℕ) → ((p : Pos) → holds_id t (w.cells p) ≡ false) → place_in w t ≡ None
unfolding place_in
place_in-nowhere w t none = first_of-nowhere w.width (λ p. holds_id t (w.cells p)) (area w) none

-- if one position alone holds t, that is its place
pub place_in-only : (w : World) (t : ℕ) (p : Pos) → IsInside w.width w.height p → holds_id t (w.cells p) ≡ true → ((q : Pos) → holds_id t (w.cells q) ≡ true → q ≡ p) → place_in w t ≡ Some p
unfolding place_in
place_in-only w t p inside holds only =
    first_of-only w.width (λ q. holds_id t (w.cells q)) (area w) (index_of w.width p) p (index_of-inside w.width w.height p inside) (pos_at-index_of w.width p inside.column) holds only

-- the place of the ant that a cell holds is that cell's
pub place_in-found : (w : World) (t : ℕ) (p : Pos) → Valid w → holds_id t (w.cells p) ≡ true → place_in w t ≡ Some p
place_in-found w t p valid holds = place_in-only w t p (holds_id-inside w t p valid holds) holds (λ q there. valid.once t q p there holds)

-- the cell at the place of an ant holds it
pub place_in-holds : (w : World) (t : ℕ) (p : Pos) → place_in w t ≡ Some p → holds_id t (w.cells p) ≡ true
unfolding place_in
place_in-holds w t p found = (first_of-found w.width (λ q. holds_id t (w.cells q)) (area w) p found).passes

-- the place of an ant is inside
pub place_in-inside : (w : World) (t : ℕ) (p : Pos) → place_in w t ≡ Some p → IsInside w.width w.height p
unfolding place_in
place_in-inside w t p found =
    let it : Found w.width (λ q. holds_id t (w.cells q)) (area w) p = first_of-found w.width (λ q. holds_id t (w.cells q)) (area w) p found in
    subst (IsInside w.width w.height) it.at (pos_at-inside w.width w.height it.number it.early)

-- the ant at its place
pub place_in-ant : (w : World) (t : ℕ) (p : Pos) → place_in w t ≡ Some p → Holder t (w.cells p).ant
place_in-ant w t p found = is_ant-true t (w.cells p).ant (place_in-holds w t p found)

-- an ant without a place is on no cell
pub place_in-none : (w : World) (t : ℕ) (p : Pos) → Valid w → place_in w t ≡ None → holds_id t (w.cells p) ≡ false
place_in-none w t p valid nowhere =
    false_from_ne_true (holds_id t (w.cells p)) λ holds. let e : None ≡ Some p = sym nowhere ∙ place_in-found w t p valid holds in absurd (cc)

-- an id that was never made is held by no ant
pub is_ant-unknown : (t ids : ℕ) (o : Option Ant) → ((ant : Ant) → o ≡ Some ant → ant.id < ids) → ids ≤ t → is_ant t o ≡ false
is_ant-unknown t ids None known beyond = refl
is_ant-unknown t ids (Some ant) known beyond =
    let below : ant.id < ids = known ant refl in grind arith

-- an id that was never made has no place
pub place_in-unknown : (w : World) (t : ℕ) → Valid w → w.ids ≤ t → place_in w t ≡ None
place_in-unknown w t valid beyond =
    place_in-nowhere w t (λ p. is_ant-unknown t w.ids (w.cells p).ant (valid.known p) beyond)

-- after a change at p, an ant that the new cell holds is at p
pub place_in-put_new : (w : World) (room : ℕ) (p : Pos) (cell : Cell) (t : ℕ) → CanSet w room p cell → holds_id t cell ≡ true → place_in (put w p cell) t ≡ Some p
place_in-put_new w room p cell t can holds =
    let it : Holder t cell.ant = is_ant-true t cell.ant holds in
    let nowhere_else : (q : Pos) → q ≢ p → holds_id t (w.cells q) ≡ false = λ q apart. ap (λ i. holds_id i (w.cells q)) (sym it.id) ∙ can.ant_nowhere_else it.ant it.is q apart in
    place_in-only (put w p cell) t p (record { column = can.inside.column; row = can.inside.row }) (ap (holds_id t) (put_cell-same w.cells p cell) ∙ holds) λ q there. elim (cases_pos q p) [
      | inl one ↦ one
      | inr apart ↦ absurd (both_ways (holds_id t (w.cells q)) (nowhere_else q apart) (ap (holds_id t) (sym (put_cell-other w.cells p cell q (λ e. apart (sym e)))) ∙ there))
    ]

-- after a change at p, an ant that the old cell held and the new one doesn't is nowhere
pub place_in-put_gone : (w : World) (p : Pos) (cell : Cell) (t : ℕ) → Valid w → holds_id t (w.cells p) ≡ true → holds_id t cell ≡ false → place_in (put w p cell) t ≡ None
place_in-put_gone w p cell t valid held gone =
    place_in-nowhere (put w p cell) t λ q. elim (cases_pos p q) [
      | inl one ↦ ap (λ r. holds_id t (put_cell w.cells p cell r)) (sym one) ∙ ap (holds_id t) (put_cell-same w.cells p cell) ∙ gone
      | inr apart ↦ ap (holds_id t) (put_cell-other w.cells p cell q apart) ∙ false_from_ne_true (holds_id t (w.cells q)) (λ there. apart (valid.once t p q held there))
    ]

-- after a change at p, an ant that neither the old cell nor the new one holds is where it was
pub place_in-put_other : (w : World) (p : Pos) (cell : Cell) (t : ℕ) → holds_id t (w.cells p) ≡ holds_id t cell → place_in (put w p cell) t ≡ place_in w t
unfolding place_in
place_in-put_other w p cell t alike =
    first_of-same w.width (λ q. holds_id t (put_cell w.cells p cell q)) (λ q. holds_id t (w.cells q)) (area w) λ q. elim (cases_pos p q) [
      | inl one ↦ ap (λ r. holds_id t (put_cell w.cells p cell r)) (sym one) ∙ ap (holds_id t) (put_cell-same w.cells p cell) ∙ sym alike ∙ ap (λ r. holds_id t (w.cells r)) one
      | inr apart ↦ ap (holds_id t) (put_cell-other w.cells p cell q apart)
    ]

-- where an ant is after a change at p
pub place_in-put : (w : World) (room : ℕ) (p : Pos) (cell : Cell) (t : ℕ) → Valid w → CanSet w room p cell → place_in (put w p cell) t ≡ cond (holds_id t cell) (Some p) (cond (holds_id t (w.cells p)) None (place_in w t))
place_in-put w room p cell t valid can =
    elim (cases_Bool (holds_id t cell)) [
      | inl new ↦ place_in-put_new w room p cell t can new ∙ sym (cond-true _ _ _ new)
      | inr not_new ↦ elim (cases_Bool (holds_id t (w.cells p))) [
        | inl old ↦ place_in-put_gone w p cell t valid old not_new ∙ sym (cond-true _ _ _ old) ∙ sym (cond-false _ _ _ not_new)
        | inr not_old ↦ place_in-put_other w p cell t (not_old ∙ sym not_new) ∙ sym (cond-false _ _ _ not_old) ∙ sym (cond-false _ _ _ not_new)
      ]
    ]

-- a clear cell has six neighbours
pub clear_has_neighbours : (w : World) (p : Pos) → Valid w → (w.cells p).rocky ≡ false → HasNeighbours p
clear_has_neighbours w p valid clear =
    let narrow = valid.narrow in
    let low = valid.low in
    inner_has_neighbours (valid.rim p clear) (omega arith) (omega arith)
