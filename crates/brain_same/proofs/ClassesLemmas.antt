-- Classes: one renamed, two joined.
use Rattle.std.proofs.Common.{◌≡◌, ◌⊎◌, inl, inr, ℕ, zero, suc, ◌*◌, ◌<◌, ◌≤◌, Bool, List, [], ◌∷◌, map, length, slice_index, sym, ap, ◌∙◌, arith}
use Rattle.std.specs.Prelude.{if◌then◌else◌}
use Rattle.std.proofs.lemmas.Bool.{cases_eq, eq-eqb, ne_eqb}
use Rattle.std.proofs.lemmas.List.{get_or-map, length-map}
use Rattle.brain_same.specs.Inner.Classes.{AreApart, AreJoined, renamed, total}

-- the renamed class has the other name
renamed-same : (from to class : ℕ) → class ≡ from → renamed from to class ≡ to
renamed-same from to class same = ap (λ (b : Bool). if b then to else class) (eq-eqb class from same)

-- others keep theirs
renamed-other : (from to class : ℕ) → (class ≡ from → ⊥) → renamed from to class ≡ class
renamed-other from to class apart = ap (λ (b : Bool). if b then to else class) (ne_eqb class from apart)

-- the other name stays
renamed-target : (from to : ℕ) → renamed from to to ≡ to
renamed-target from to = elim (cases_eq to from) [ inl same ↦ renamed-same from to to same | inr apart ↦ renamed-other from to to apart ]

-- no name rises
renamed-falls : (from to class : ℕ) → to < from → renamed from to class ≤ class
renamed-falls from to class less =
    elim (cases_eq class from) [
      | inl same ↦ let is = renamed-same from to class same in omega arith
      | inr apart ↦ let is = renamed-other from to class apart in omega arith
    ]

total-falls : (from to : ℕ) (classes : List ℕ) → to < from → total (map (renamed from to) classes) ≤ total classes
total-falls from to [] less = omega arith
total-falls from to (class ∷ classes) less =
    let one = renamed-falls from to class less in
    let rest = total-falls from to classes less in
    omega arith

-- if there was such a class, their sum falls
total-lower : (from to : ℕ) (classes : List ℕ) (k : ℕ) → to < from → k < length classes → slice_index classes k ≡ from → total (map (renamed from to) classes) < total classes
total-lower from to [] k less inside is = absurd (omega arith)
total-lower from to (class ∷ classes) zero less inside is =
    let one = renamed-same from to class is in
    let rest = total-falls from to classes less in
    omega arith
total-lower from to (class ∷ classes) (suc k) less inside is =
    let one = renamed-falls from to class less in
    let rest = total-lower from to classes k less (omega arith) is in
    omega arith

-- two that have one name now had one, or are the two
renamed-cases : (from to c d : ℕ) → renamed from to c ≡ renamed from to d → (c ≡ d) ⊎ (((c ≡ from) × (d ≡ to)) ⊎ ((c ≡ to) × (d ≡ from)))
renamed-cases from to c d same =
    elim (cases_eq c from) [
      | inl one ↦ elim (cases_eq d from) [
        | inl other ↦ inl (one ∙ sym other)
        | inr apart ↦ inr (inl (one, sym (renamed-other from to d apart) ∙ sym same ∙ renamed-same from to c one))
      ]
      | inr apart ↦ elim (cases_eq d from) [
        | inl other ↦ inr (inr (sym (renamed-other from to c apart) ∙ same ∙ renamed-same from to d other, other))
        | inr too ↦ inl (sym (renamed-other from to c apart) ∙ same ∙ renamed-other from to d too)
      ]
    ]

module _ (old : List ℕ) (a b from to : ℕ) (less : to < from) (low : a < length old) (high : b < length old) where
  abbrev new : List ℕ
  new = map (renamed from to) old

  -- the new name of a state
  at : (x : ℕ) → x < length old → slice_index new x ≡ renamed from to (slice_index old x)
  at x inside = get_or-map (renamed from to) old x 0 0 inside

  kept : (x y : ℕ) → x < length old → y < length old → slice_index old x ≡ slice_index old y → slice_index new x ≡ slice_index new y
  kept x y inside too same = at x inside ∙ ap (renamed from to) same ∙ sym (at y too)

  -- the first state's class is renamed
  pub AreJoined-first : slice_index old a ≡ from → slice_index old b ≡ to → AreJoined old new a b
  AreJoined-first one other = record {
    each = length-map old (renamed from to);
    joined = at a low ∙ renamed-same from to (slice_index old a) one ∙ sym (at b high ∙ ap (renamed from to) other ∙ renamed-target from to);
    kept = kept;
    only = λ x y inside too same. elim (renamed-cases from to (slice_index old x) (slice_index old y) (sym (at x inside) ∙ same ∙ at y too)) [
      | inl were ↦ inl were
      | inr two ↦ elim two [
        | inl here ↦ inr (inl (here.0 ∙ sym one, here.1 ∙ sym other))
        | inr there ↦ inr (inr (there.0 ∙ sym other, there.1 ∙ sym one))
      ]
    ];
    falls = total-lower from to old a less low one;
  }

  -- the second one's
  pub AreJoined-second : slice_index old a ≡ to → slice_index old b ≡ from → AreJoined old new a b
  AreJoined-second one other = record {
    each = length-map old (renamed from to);
    joined = at a low ∙ ap (renamed from to) one ∙ renamed-target from to ∙ sym (at b high ∙ renamed-same from to (slice_index old b) other);
    kept = kept;
    only = λ x y inside too same. elim (renamed-cases from to (slice_index old x) (slice_index old y) (sym (at x inside) ∙ same ∙ at y too)) [
      | inl were ↦ inl were
      | inr two ↦ elim two [
        | inl here ↦ inr (inr (here.0 ∙ sym other, here.1 ∙ sym one))
        | inr there ↦ inr (inl (there.0 ∙ sym one, there.1 ∙ sym other))
      ]
    ];
    falls = total-lower from to old b less high other;
  }

-- names that are below a number are together below as many times that number
total-bounded : (classes : List ℕ) → ((k : ℕ) → k < length classes → slice_index classes k < 20000) → total classes ≤ 20000 * length classes
total-bounded [] below = omega arith
total-bounded (class ∷ classes) below =
    let one = below 0 (omega arith) in
    let rest = total-bounded classes (λ k inside. below (suc k) (omega arith)) in
    omega arith

-- the names of classes that are apart
pub total-apart : (count : ℕ) (classes : List ℕ) → AreApart count classes → count ≤ 20000 → total classes ≤ 400000000
total-apart count classes apart few =
    let each = apart.each in
    let all = total-bounded classes (λ k inside. let own = apart.own k (omega arith) in omega arith) in
    omega arith
