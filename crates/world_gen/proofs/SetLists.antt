-- Lists in which the entries of some cells are set.
use Rattle.hex_geometry.proofs.RowLemmas.{index_of-inside, index_of-same}
use Rattle.hex_geometry.specs.RowOrder.{index_of}
use Rattle.hex_geometry.specs.Position.{IsInside}
use Rattle.hex_geometry.specs.declared.position.Pos.{Pos}
use Rattle.std.proofs.Common.{◌≡◌, ◌≢◌, ℕ, ◌*◌, ◌<◌, List, length, get_or, refl, sym, ◌∙◌, subst, inl, inr, get_or-set_other, get_or-set_same}
use Rattle.std.proofs.Math.ListN.{set, length-set}
use Rattle.std.proofs.lemmas.Bool.{cases_Bool, eqb-false, eqb-true}
use Rattle.std.specs.Prelude.{◌⊎◌, ◌==◌}
use Rattle.world_gen.specs.Inner.Sets.{SetsWhere}

-- setting a value keeps it where it is
set_stays : {X : Type 0} (xs : List X) (i j : ℕ) (v d : X) → i < length xs → get_or xs j d ≡ v → get_or (set xs i v) j d ≡ v
set_stays xs i j v d within is =
    elim (cases_Bool (j == i)) [
      | inl same ↦ rw (eqb-true j i same) (rw get_or-set_same refl)
      | inr other ↦ let apart : j ≢ i = eqb-false j i other in rw get_or-set_other is
    ]

-- nothing is set
pub sets_none : {X : Type 0} (width height : ℕ) (v : X) (S : Pos → Type 0) (xs : List X) → ((p : Pos) → S p → ⊥) → SetsWhere width height v S xs xs
sets_none width height v S xs none = record { same_length = refl; on = λ p d inside here. absurd (none p here); stay = λ p d inside is. is; off = λ p d inside other. refl }

-- one entry is set
pub sets_one : {X : Type 0} (width height : ℕ) (v : X) (q : Pos) (xs : List X) → length xs ≡ width * height → IsInside width height q → SetsWhere width height v (λ p. q ≡ p) xs (set xs (index_of width q) v)
sets_one {X} width height v q xs full inside =
    let within : index_of width q < length xs = subst (λ n. index_of width q < n) (sym full) (index_of-inside width height q inside) in
    let at_q : (d : X) → get_or (set xs (index_of width q) v) (index_of width q) d ≡ v = λ d. rw get_or-set_same refl in
    let elsewhere : (p : Pos) (d : X) → IsInside width height p → (q ≡ p → ⊥) → get_or (set xs (index_of width q) v) (index_of width p) d ≡ get_or xs (index_of width p) d =
    λ p d here other.
    let apart : index_of width p ≢ index_of width q = λ same. other (sym (index_of-same width p q here.column inside.column same)) in
    rw get_or-set_other refl in
    record {
      same_length = length-set xs (index_of width q) v;
      on = λ p d here same. subst (λ r. get_or (set xs (index_of width q) v) (index_of width r) d ≡ v) same (at_q d);
      stay = λ p d here is. set_stays xs (index_of width q) (index_of width p) v d within is;
      off = λ p d here other. elsewhere p d here other;
    }

-- and then others
pub sets_both : {X : Type 0} (width height : ℕ) (v : X) (S T U : Pos → Type 0) (xs ys zs : List X) → SetsWhere width height v S xs ys → SetsWhere width height v T ys zs
    → ((p : Pos) → U p → S p ⊎ T p) → ((p : Pos) → S p → U p) → ((p : Pos) → T p → U p) → SetsWhere width height v U xs zs
sets_both width height v S T U xs ys zs first second split left right = record {
  same_length = second.same_length ∙ first.same_length;
  on = λ p d inside here. elim (split p here) [ inl s ↦ second.stay p d inside (first.on p d inside s) | inr t ↦ second.on p d inside t ];
  stay = λ p d inside is. second.stay p d inside (first.stay p d inside is);
  off = λ p d inside other. second.off p d inside (λ t. other (right p t)) ∙ first.off p d inside (λ s. other (left p s));
}

-- the same cells, said otherwise
pub sets_as : {X : Type 0} (width height : ℕ) (v : X) (S U : Pos → Type 0) (xs ys : List X) → SetsWhere width height v S xs ys → ((p : Pos) → U p → S p) → ((p : Pos) → S p → U p) → SetsWhere width height v U xs ys
sets_as width height v S U xs ys sets into back = record {
  same_length = sets.same_length;
  on = λ p d inside here. sets.on p d inside (into p here);
  stay = sets.stay;
  off = λ p d inside other. sets.off p d inside (λ s. other (back p s));
}
