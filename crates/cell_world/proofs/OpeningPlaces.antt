-- Where the ants of an opening world begin.
use Rattle.std.proofs.Common.{◌≡◌, inl, inr, ℕ, suc, zero, ◌+◌, ◌<◌, true, false, cond, List, [], ◌∷◌, ◌++◌, length, get_or, take, Option, Some, None, refl, sym, ◌∙◌, ap, ap₂, arith}
use Rattle.std.proofs.lemmas.Bool.{cases_Bool}
use Rattle.std.proofs.lemmas.List.{length-append}
use Rattle.std.proofs.lemmas.Nat.{mod_below}
use Rattle.std.specs.Option.{is_some}
use Rattle.hex_geometry.specs.declared.position.Pos.{Pos}
use Rattle.cell_world.specs.declared.kind.Kind.{Kind}
use Rattle.cell_world.specs.declared.kind.Kind.TheVariants.{Rock}
use Rattle.cell_world.specs.Cell.{holds_id, one_if}
use Rattle.cell_world.specs.Inner.Index.{IsIndex}
use Rattle.cell_world.specs.Grid.{cell_in, world_of}
use Rattle.hex_geometry.proofs.RowLemmas.{index_of-pos_at}
use Rattle.hex_geometry.specs.RowOrder.{index_of, pos_at}
use Rattle.cell_world.specs.Opening.{IsPlan, hill_count, is_hill, opening, opening_cell}
use Rattle.cell_world.specs.Inner.OpeningPlaces.{hill_places, opening_places}
use Rattle.cell_world.proofs.OpeningValid.{IsWorld-opening, cell_in-opening}
use Rattle.cell_world.proofs.Openings.{opening_cell-holds_id}
use Rattle.cell_world.proofs.Places.{place_in-found}

-- a hill gives one place
pub length-hill_places : (kind : Kind) (p : Pos) → length (hill_places kind p) ≡ one_if (is_hill kind)
length-hill_places Rock p = refl
length-hill_places it p = refl

-- there is a place for each hill cell
pub length-opening_places : (width i : ℕ) (kinds : List Kind) → length (opening_places width i kinds) ≡ hill_count kinds
length-opening_places width i [] = refl
length-opening_places width i (kind ∷ kinds) =
    length-append (hill_places kind (pos_at width i)) (opening_places width (i + 1) kinds)
    ∙ ap₂ ◌+◌ (length-hill_places kind (pos_at width i)) (length-opening_places width (i + 1) kinds)

-- the ant of id t begins on the hill cell before which there are t hill cells
record Begins (width : ℕ) (fallback : Option Pos) (kinds : List Kind) (i t : ℕ) : Type 0 where
  number : ℕ
  hill : is_hill (get_or kinds number Rock) ≡ true
  before : hill_count (take number kinds) ≡ t
  place : get_or (opening_places width i kinds) t fallback ≡ Some (pos_at width (i + number))

-- a cell that is of no hill is passed over
Begins-other : (width : ℕ) (fallback : Option Pos) (kind : Kind) (kinds : List Kind) (i t : ℕ) → is_hill kind ≡ false → Begins width fallback kinds (i + 1) t → Begins width fallback (kind ∷ kinds) i t
Begins-other width fallback kind kinds i t other rest =
    let next : i + 1 + rest.number ≡ i + suc rest.number = omega arith in
    let count : one_if (is_hill kind) ≡ 0 = ap one_if other in
    let before : hill_count (take rest.number kinds) ≡ t = rest.before in
    record {
      number = suc rest.number;
      hill = rest.hill;
      before = omega arith;
      place = ap (λ b. get_or (cond b (Some (pos_at width i) ∷ []) [] ++ opening_places width (i + 1) kinds) t fallback) other ∙ rest.place ∙ ap (λ n. Some (pos_at width n)) next;
    }

-- the first hill cell is that of ant 0
Begins-hill : (width : ℕ) (fallback : Option Pos) (kind : Kind) (kinds : List Kind) (i t : ℕ) → is_hill kind ≡ true → ((u : ℕ) → suc u ≡ t → Begins width fallback kinds (i + 1) u) → Begins width fallback (kind ∷ kinds) i t
Begins-hill width fallback kind kinds i zero hill rest =
    let here : i ≡ i + 0 = omega arith in
    record {
      number = 0;
      hill = hill;
      before = refl;
      place = ap (λ b. get_or (cond b (Some (pos_at width i) ∷ []) [] ++ opening_places width (i + 1) kinds) 0 fallback) hill ∙ ap (λ n. Some (pos_at width n)) here;
    }
Begins-hill width fallback kind kinds i (suc t) hill rest =
    let later : Begins width fallback kinds (i + 1) t = rest t refl in
    let next : i + 1 + later.number ≡ i + suc later.number = omega arith in
    let count : one_if (is_hill kind) ≡ 1 = ap one_if hill in
    let before : hill_count (take later.number kinds) ≡ t = later.before in
    record {
      number = suc later.number;
      hill = later.hill;
      before = omega arith;
      place = ap (λ b. get_or (cond b (Some (pos_at width i) ∷ []) [] ++ opening_places width (i + 1) kinds) (suc t) fallback) hill ∙ later.place ∙ ap (λ n. Some (pos_at width n)) next;
    }

-- each ant begins somewhere
begins : (width : ℕ) (fallback : Option Pos) (kinds : List Kind) (i t : ℕ) → t < hill_count kinds → Begins width fallback kinds i t
begins width fallback [] i t made = absurd (omega arith)
begins width fallback (kind ∷ kinds) i t made = elim (cases_Bool (is_hill kind)) [
  | inl hill ↦ Begins-hill width fallback kind kinds i t hill λ u is. begins width fallback kinds (i + 1) u (let one : one_if (is_hill kind) ≡ 1 = ap one_if hill in omega arith)
  | inr other ↦ Begins-other width fallback kind kinds i t other (begins width fallback kinds (i + 1) t (let no : one_if (is_hill kind) ≡ 0 = ap one_if other in omega arith))
]

-- each ant has a place
pub opening_places-some : (width : ℕ) (kinds : List Kind) (t : ℕ) → t < hill_count kinds → is_some (get_or (opening_places width 0 kinds) t None) ≡ true
opening_places-some width kinds t made = ap is_some (begins width None kinds 0 t made).place

-- the places of the ants are those of an index of the opening world
pub IsIndex-opening : (width height : ℕ) (kinds : List Kind) → IsPlan width height kinds → IsIndex (opening width height kinds) (opening_places width 0 kinds)
unfolding opening
IsIndex-opening width height kinds plan = record {
  all_ids = length-opening_places width 0 kinds;
  agrees = λ t fallback made.
      let it : Begins width fallback kinds 0 t = begins width fallback kinds 0 t made in
      let p : Pos = pos_at width it.number in
      let from_zero : 0 + it.number ≡ it.number = omega arith in
      let wide = plan.wide in
      let number : index_of width p ≡ it.number = index_of-pos_at width it.number in
      let id : hill_count (take (index_of width p) kinds) ≡ t = ap (λ k. hill_count (take k kinds)) number ∙ it.before in
      let hill : is_hill (get_or kinds (index_of width p) Rock) ≡ true = ap (λ k. is_hill (get_or kinds k Rock)) number ∙ it.hill in
      let content : cell_in (opening width height kinds) p ≡ opening_cell t (get_or kinds (index_of width p) Rock) =
      cell_in-opening width height kinds p (mod_below it.number width (omega arith)) ∙ ap (λ u. opening_cell u (get_or kinds (index_of width p) Rock)) id in
      it.place
      ∙ ap (λ k. Some (pos_at width k)) from_zero
      ∙ sym (place_in-found (world_of (opening width height kinds)) t p (IsWorld-opening width height kinds plan).valid (ap (holds_id t) content ∙ opening_cell-holds_id t (get_or kinds (index_of width p) Rock) hill));
}
