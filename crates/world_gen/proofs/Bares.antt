-- A draft without elements.
use Rattle.std.proofs.Common.{◌≡◌, ℕ, zero, suc, ◌+◌, ◌*◌, ◌<◌, ◌≤◌, List, [], ◌∷◌, ◌++◌, length, get_or, true, false, refl, sym, ◌∙◌, ap, arith, inl, inr, add-one}
use Rattle.std.proofs.lemmas.Bool.{and_from, and_parts, cases_Bool, cases_lt, lt-ltb, ltb-true, not-true}
use Rattle.std.proofs.lemmas.List.{get_or_push, length_push}
use Rattle.std.proofs.Math.ListN.{get_or-append}
use Rattle.std.proofs.lemmas.List.Elements.{All-push}
use Rattle.std.specs.List.{All}
use Rattle.std.specs.Prelude.{Bool, not}
use Rattle.list_lemmas.proofs.Elements.{Contains-none}
use Rattle.hex_geometry.specs.RowOrder.{index_of, pos_at}
use Rattle.hex_geometry.specs.Position.{IsInside, is_on_rim}
use Rattle.hex_geometry.specs.declared.position.Pos.{Pos}
use Rattle.hex_geometry.proofs.Places.{inner_inside}
use Rattle.hex_geometry.proofs.Rim.{inner-off_rim, off_rim-inner}
use Rattle.hex_geometry.proofs.RowLemmas.{index_of-inside, pos_at-index_of}
use Rattle.cell_world.specs.Cell.{one_if}
use Rattle.cell_world.specs.Limits.{most_size}
use Rattle.cell_world.specs.Opening.{IsFed, hill_count, is_hill, kind_at}
use Rattle.cell_world.specs.declared.kind.Kind.{Kind}
use Rattle.cell_world.specs.declared.kind.Kind.TheVariants as kind
use Rattle.world_gen.specs.Inner.Open.{is_unblocked}
use Rattle.world_gen.specs.Inner.Drafts.{IsDraft, bare_blocked, bare_kind, bare_kinds}

pub bare_blocked_length : (width height n : ℕ) → length (bare_blocked width height n) ≡ n
unfolding bare_blocked
bare_blocked_length width height zero = refl
bare_blocked_length width height (suc n) = omega (arith, length_push (bare_blocked width height n) (is_on_rim width height (pos_at width n)), bare_blocked_length width height n)

pub bare_kinds_length : (width height n : ℕ) → length (bare_kinds width height n) ≡ n
unfolding bare_kinds
bare_kinds_length width height zero = refl
bare_kinds_length width height (suc n) = omega (arith, length_push (bare_kinds width height n) (bare_kind (is_on_rim width height (pos_at width n))), bare_kinds_length width height n)

bare_blocked_at : (width height n k : ℕ) (d : Bool) → k < n → get_or (bare_blocked width height n) k d ≡ is_on_rim width height (pos_at width k)
unfolding bare_blocked
bare_blocked_at width height zero k d below = absurd (omega arith)
bare_blocked_at width height (suc n) k d below =
    elim (cases_lt k n) [
      | inl h ↦ get_or-append (bare_blocked width height n) _ d k (let e = bare_blocked_length width height n in omega arith) ∙ bare_blocked_at width height n k d h
      | inr h ↦
          let same : n ≡ k = omega arith in
          get_or_push (bare_blocked width height n) _ d k (bare_blocked_length width height n ∙ same) ∙ ap (λ i. is_on_rim width height (pos_at width i)) same
    ]

bare_kinds_at : (width height n k : ℕ) (d : Kind) → k < n → get_or (bare_kinds width height n) k d ≡ bare_kind (is_on_rim width height (pos_at width k))
unfolding bare_kinds
bare_kinds_at width height zero k d below = absurd (omega arith)
bare_kinds_at width height (suc n) k d below =
    elim (cases_lt k n) [
      | inl h ↦ get_or-append (bare_kinds width height n) _ d k (let e = bare_kinds_length width height n in omega arith) ∙ bare_kinds_at width height n k d h
      | inr h ↦
          let same : n ≡ k = omega arith in
          get_or_push (bare_kinds width height n) _ d k (bare_kinds_length width height n ∙ same) ∙ ap (λ i. bare_kind (is_on_rim width height (pos_at width i))) same
    ]

bare_fed : (rim : Bool) → IsFed (bare_kind rim)
bare_fed true = tt
bare_fed false = tt

pub bare_kinds_fed : (width height n : ℕ) → All IsFed (bare_kinds width height n)
unfolding bare_kinds
bare_kinds_fed width height zero = λ k d h. absurd (omega arith)
bare_kinds_fed width height (suc n) = All-push IsFed (bare_kinds width height n) (bare_kind (is_on_rim width height (pos_at width n))) (bare_kinds_fed width height n) (bare_fed (is_on_rim width height (pos_at width n)))

hill_count_push : (kinds : List Kind) (kind : Kind) → hill_count (kinds ++ kind ∷ []) ≡ hill_count kinds + one_if (is_hill kind)
hill_count_push [] kind = omega arith
hill_count_push (k ∷ kinds) kind = let h = hill_count_push kinds kind in omega arith

bare_no_hill : (rim : Bool) → one_if (is_hill (bare_kind rim)) ≡ 0
bare_no_hill true = refl
bare_no_hill false = refl

pub bare_hills : (width height n : ℕ) → hill_count (bare_kinds width height n) ≡ 0
unfolding bare_kinds
bare_hills width height zero = refl
bare_hills width height (suc n) =
    let kind = bare_kind (is_on_rim width height (pos_at width n)) in
    omega (arith, hill_count_push (bare_kinds width height n) kind, bare_no_hill (is_on_rim width height (pos_at width n)), bare_hills width height n)

-- an open cell is inside, and not blocked
pub open_inside : (width height : ℕ) (blocked : List Bool) (p : Pos) → is_unblocked width height blocked p ≡ true → IsInside width height p
open_inside width height blocked p free =
    let a = and_parts _ _ free in
    let b = and_parts _ _ a.1 in
    record { column = ltb-true p.x width a.0; row = ltb-true p.y height b.0 }

pub open_free : (width height : ℕ) (blocked : List Bool) (p : Pos) → is_unblocked width height blocked p ≡ true → get_or blocked (index_of width p) true ≡ false
open_free width height blocked p free =
    let a = and_parts _ _ free in
    let b = and_parts _ _ a.1 in
    not-true _ b.1

pub open_from : (width height : ℕ) (blocked : List Bool) (p : Pos) → IsInside width height p → get_or blocked (index_of width p) true ≡ false → is_unblocked width height blocked p ≡ true
open_from width height blocked p inside free =
    and_from _ _ (lt-ltb p.x width inside.column) (and_from _ _ (lt-ltb p.y height inside.row) (ap not free))

bare_blocked_is : (width height : ℕ) (p : Pos) → IsInside width height p → get_or (bare_blocked width height (width * height)) (index_of width p) true ≡ is_on_rim width height p
bare_blocked_is width height p inside =
    bare_blocked_at width height (width * height) (index_of width p) true (index_of-inside width height p inside) ∙ ap (is_on_rim width height) (pos_at-index_of width p inside.column)

bare_kind_is : (width height : ℕ) (p : Pos) → IsInside width height p → kind_at width (bare_kinds width height (width * height)) p ≡ bare_kind (is_on_rim width height p)
bare_kind_is width height p inside =
    bare_kinds_at width height (width * height) (index_of width p) kind.Rock (index_of-inside width height p inside) ∙ ap (λ q. bare_kind (is_on_rim width height q)) (pos_at-index_of width p inside.column)

-- the draft without elements keeps what a draft keeps
pub bare_draft : (width height : ℕ) → width ≤ most_size → height ≤ most_size → IsDraft width height [] (bare_blocked width height (width * height)) (bare_kinds width height (width * height))
bare_draft width height narrow low = record {
  fenced = record {
    full = bare_blocked_length width height (width * height);
    narrow = narrow;
    low = low;
    rim = λ p free.
        let inside = open_inside width height _ p free in
        off_rim-inner width height p inside (sym (bare_blocked_is width height p inside) ∙ open_free width height _ p free);
  };
  shut = λ p other inside among touched free. Contains-none other among;
  free = λ p inner none.
      let inside = inner_inside inner in
      open_from width height _ p inside (bare_blocked_is width height p inside ∙ inner-off_rim width height p inner);
  off_rim = λ other q among cell. absurd (Contains-none other among);
  painted = record {
    full = bare_kinds_length width height (width * height);
    rim = λ p inside outer.
        elim (cases_Bool (is_on_rim width height p)) [
          | inl on ↦ bare_kind_is width height p inside ∙ ap bare_kind on
          | inr off ↦ absurd (outer (off_rim-inner width height p inside off))
        ];
    cell = λ p spot among cell. absurd (Contains-none spot among);
    floor = λ p inner none. bare_kind_is width height p (inner_inside inner) ∙ ap bare_kind (inner-off_rim width height p inner);
  };
  fed = bare_kinds_fed width height (width * height);
}

-- the lists that the code makes
pub bare_blocked_none : (width height : ℕ) → [] ≡ bare_blocked width height 0
unfolding bare_blocked
bare_blocked_none width height = refl

pub bare_kinds_none : (width height : ℕ) → [] ≡ bare_kinds width height 0
unfolding bare_kinds
bare_kinds_none width height = refl

pub bare_blocked_more : (w h width height n : ℕ) (xs ys : List Bool) → w ≡ width → h ≡ height → xs ≡ bare_blocked width height n → ys ≡ xs ++ is_on_rim w h (pos_at w n) ∷ [] → ys ≡ bare_blocked width height (n + 1)
unfolding bare_blocked
bare_blocked_more w h width height n xs ys ew eh is more =
    rw (add-one n) (more ∙ ap (λ (l : List Bool). l ++ is_on_rim w h (pos_at w n) ∷ []) is ∙ ap (λ v. bare_blocked width height n ++ is_on_rim v h (pos_at v n) ∷ []) ew ∙ ap (λ v. bare_blocked width height n ++ is_on_rim width v (pos_at width n) ∷ []) eh)

pub bare_kinds_more : (w h width height n : ℕ) (xs ys : List Kind) → w ≡ width → h ≡ height → xs ≡ bare_kinds width height n → ys ≡ xs ++ bare_kind (is_on_rim w h (pos_at w n)) ∷ [] → ys ≡ bare_kinds width height (n + 1)
unfolding bare_kinds
bare_kinds_more w h width height n xs ys ew eh is more =
    rw (add-one n) (more ∙ ap (λ (l : List Kind). l ++ bare_kind (is_on_rim w h (pos_at w n)) ∷ []) is ∙ ap (λ v. bare_kinds width height n ++ bare_kind (is_on_rim v h (pos_at v n)) ∷ []) ew ∙ ap (λ v. bare_kinds width height n ++ bare_kind (is_on_rim width v (pos_at width n)) ∷ []) eh)
